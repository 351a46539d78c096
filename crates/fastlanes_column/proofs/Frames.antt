-- The differences of a block from a reference.
use Rattle.std.proofs.Common.{◌≡◌, ℕ, ◌+◌, ◌-◌, ◌%◌, ◌^◌, ◌<◌, ◌≤◌, List, length, ap, subst, ◌∙◌, arith}
use Rattle.std.proofs.Math.Nat.{add-mod_right, mod-eq_of_lt}
use Rattle.std.proofs.lemmas.List.{get_or-map, length-map}
use Rattle.std.proofs.lemmas.List.Elements.{All-contains, All-from_get_or, All-map}
use Rattle.std.proofs.lemmas.List.FromFn.{length-map-range_with_len}
use Rattle.std.specs.List.{All, slice_index}
use Rattle.fastlanes.specs.Digits.{digit, digits}
use Rattle.fastlanes.specs.Frame.{framed, unframed, word_difference, word_sum}
use Rattle.fastlanes.proofs.Callers.{element_of_digits}
use Rattle.fastlanes_column.specs.LeastWidth.{IsLeastOf, IsLeastWidth, IsNarrowestHead, LieAbove}

-- a difference that does not wrap
pub difference-above : (t x r : ℕ) → r ≤ x → x < 2 ^ t → word_difference t x r ≡ x - r
difference-above t x r above below =
    let whole : x + (2 ^ t - r) ≡ x - r + 2 ^ t = omega arith in
    let small : x - r < 2 ^ t = omega arith in
    ap (λ (n : ℕ). n % 2 ^ t) whole ∙ add-mod_right (x - r) (2 ^ t) ∙ mod-eq_of_lt small

-- what holds of all differences, said of the elements
pub near_elements : (t r w : ℕ) (v : List ℕ) → All (λ x. x < 2 ^ w) (framed t r v) → All (λ x. word_difference t x r < 2 ^ w) v
unfolding framed
near_elements t r w v near = All-from_get_or (λ x. word_difference t x r < 2 ^ w) v 0 (λ i inside.
    subst (λ (n : ℕ). n < 2 ^ w) (get_or-map (λ x. word_difference t x r) v i 0 0 inside)
    (near i 0 (rw length-map inside)))

-- above another reference the differences from the least number have no more bits
near_least : (t r reference w : ℕ) (v : List ℕ) → IsLeastOf r v → All (λ x. x < 2 ^ t) v → LieAbove reference w v
    → All (λ x. x < 2 ^ w) (framed t r v)
unfolding framed
near_least t r reference w v least words lie =
    let lower : reference ≤ r = All-contains (λ x. reference ≤ x) v r lie.above least.one in
    All-map (λ x. x < 2 ^ w) (λ x. word_difference t x r) v (All-from_get_or (λ x. word_difference t x r < 2 ^ w) v 0 (λ i inside.
    let above : r ≤ slice_index v i = least.least i 0 inside in
    let near : slice_index v i - reference < 2 ^ w = lie.near i 0 inside in
    let is : word_difference t (slice_index v i) r ≡ slice_index v i - r = difference-above t (slice_index v i) r above (words i 0 inside) in
    rw is (omega arith)))

-- so the least number is a reference of the smallest width
pub narrowest_head : (t r w : ℕ) (v : List ℕ) → IsLeastOf r v → All (λ x. x < 2 ^ t) v → IsLeastWidth w (framed t r v) → IsNarrowestHead r w v
narrowest_head t r w v least words width = record {
  holds = record {
    above = least.least;
    near = All-from_get_or (λ x. x - r < 2 ^ w) v 0 (λ i inside.
        let above : r ≤ slice_index v i = least.least i 0 inside in
        let is : word_difference t (slice_index v i) r ≡ slice_index v i - r = difference-above t (slice_index v i) r above (words i 0 inside) in
        rw (← is) (near_elements t r w v width.holds i 0 inside));
  };
  narrowest = λ reference other lie. width.least other (near_least t r reference other v least words lie);
}

length-digits : (t lanes w : ℕ) (p : List ℕ) → length (digits t lanes w p) ≡ 1024
unfolding digits
length-digits t lanes w p = length-map-range_with_len (digit t lanes w p) 0 1024

-- an element of the sums of the digits and a reference
pub unframed_digit : (t lanes w r : ℕ) (p : List ℕ) (i : ℕ) → i < 1024
    → slice_index (unframed t r (digits t lanes w p)) i ≡ word_sum t (digit t lanes w p i) r
unfolding unframed
unframed_digit t lanes w r p i in_block =
    let in_digits : i < length (digits t lanes w p) = rw (length-digits t lanes w p) in_block in
    get_or-map (λ x. word_sum t x r) (digits t lanes w p) i 0 0 in_digits
    ∙ ap (λ (x : ℕ). word_sum t x r) (element_of_digits t lanes w p i in_block)
