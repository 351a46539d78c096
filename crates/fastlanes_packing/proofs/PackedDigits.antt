-- Packed blocks and their digits.
use Rattle.std.proofs.Common.{◌≡◌, ℕ, ◌+◌, ◌*◌, ◌/◌, ◌%◌, ◌^◌, ◌<◌, zero, suc, List, length, map, ap, sym, subst, ◌∙◌, arith, mul-zero}
use Rattle.std.proofs.Math.Nat.{mod-one}
use Rattle.std.proofs.lemmas.List.{get_or-map, length-map}
use Rattle.std.proofs.lemmas.List.FromFn.{fill_by_all}
use Rattle.std.proofs.lemmas.Nat.{mod-pow-add, mod_below, pow_pos}
use Rattle.std.specs.List.{slice_index}
use Rattle.fastlanes_base.specs.Digits.{IsPacked, digit, digits, number_in_base}
use Rattle.fastlanes_base.specs.Element.{IsLayout}
use Rattle.fastlanes_base.specs.Order.{lane_at, place, row_at}
use Rattle.fastlanes_base.proofs.Places.{place-at, row_at-lt, some_lanes}
use Rattle.fastlanes_rows.proofs.RowDigits.{digit_is}
use Rattle.fastlanes_packing.specs.Packing.{low_bits}

-- a digit of packed words is what is left of the element
pub packed_digit : (t lanes w : ℕ) (v p : List ℕ) (i : ℕ) → IsLayout t lanes → i < 1024
    → IsPacked t lanes w v p → digit t lanes w p i ≡ slice_index v i % 2 ^ w
unfolding digit
packed_digit t lanes w v p i layout b packed =
    let row = row_at-lt t lanes i layout b in
    ap (λ (n : ℕ). n / 2 ^ (w * row_at lanes i) % 2 ^ w) (packed.each (lane_at lanes i) (mod_below i lanes (some_lanes t lanes layout)))
    ∙ digit_is w (λ row. slice_index v (place row (lane_at lanes i)) % 2 ^ w) (row_at lanes i) t row (λ j. mod_below _ (2 ^ w) (pow_pos w))
    ∙ ap (λ (k : ℕ). slice_index v k % 2 ^ w) (place-at t lanes i layout b)

-- and all digits are what is left of all elements
pub packed_digits : (t lanes w : ℕ) (v p : List ℕ) → IsLayout t lanes → length v ≡ 1024
    → IsPacked t lanes w v p → digits t lanes w p ≡ low_bits w v
unfolding digits low_bits
packed_digits t lanes w v p layout long packed =
    let all : length (map (λ x. x % 2 ^ w) v) ≡ 1024 = length-map v (λ x. x % 2 ^ w) ∙ long in
    sym (fill_by_all (digit t lanes w p) (map (λ x. x % 2 ^ w) v) 1024 0 all (λ i in_block.
    let inside : i < length v = subst (λ (n : ℕ). i < n) (sym long) in_block in
    get_or-map (λ x. x % 2 ^ w) v i 0 0 inside ∙ sym (packed_digit t lanes w v p i layout in_block packed)))

-- the lowest n digits of a number make what is left of it
pub number_of_its_digits : (w n x : ℕ) → number_in_base w (λ k. x / 2 ^ (w * k) % 2 ^ w) n ≡ x % 2 ^ (w * n)
number_of_its_digits w zero x = rw (mul-zero w) (sym (mod-one x))
number_of_its_digits w (suc n) x =
    let exponent : w * suc n ≡ w + w * n = omega arith in
    rw (number_of_its_digits w n x, exponent, mod-pow-add x w (w * n)) (omega arith)
