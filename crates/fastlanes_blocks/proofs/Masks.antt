-- Masks of comparisons, from the masks of others.
use Rattle.std.proofs.Common.{◌≡◌, ◌==◌, ◌↔◌, ℕ, ℤ, ◌-◌, ◌*◌, ◌/◌, ◌%◌, ◌^◌, ◌<◌, ◌≤◌, Bool, true, false, not, if◌then◌else◌, IsTrue, List, pos, ap, arith, lit<, refl, subst, sym, ◌∙◌}
use Rattle.std.proofs.Math.Nat.{pow-le-pow_right}
use Rattle.std.proofs.lemmas.Nat.{mod_below, mul-add-lt, pow_pos}
use Rattle.std.proofs.lemmas.Int.{ints}
use Rattle.std.proofs.lemmas.Nat.Bits.{bit_at_not}
use Rattle.std.specs.Int.{bit_at, bit_not, w64}
use Rattle.std.specs.List.{slice_index}
use Rattle.fastlanes.specs.Digits.{digit, lane_number}
use Rattle.fastlanes.specs.Element.{IsLayout}
use Rattle.fastlanes.specs.Order.{lane_at, row_at}
use Rattle.fastlanes.proofs.Places.{row_at-lt, place-at, some_lanes}
use Rattle.fastlanes.specs.Bits.{TransposesBits, block_bit, lane_bit}
use Rattle.fastlanes.specs.Mask.{IsLaneMask, IsPlaceMask}
use Rattle.fastlanes_blocks.specs.Comparisons.{IsComplement, Tells, at_least, at_most, greater_than, holds, less_than}
use Rattle.fastlanes_blocks.specs.declared.filters.Comparison.{Comparison}

-- a digit has at most t bits
digit_below : (t lanes w : ℕ) (p : List ℕ) (i : ℕ) → w ≤ t → digit t lanes w p i < 2 ^ t
unfolding digit
digit_below t lanes w p i narrow =
    let widest : 2 ^ w ≤ 2 ^ t = pow-le-pow_right (omega arith) narrow in
    let here : digit t lanes w p i < 2 ^ w = mod_below (lane_number t lanes w (lane_at lanes i) p / 2 ^ (w * row_at lanes i)) (2 ^ w) (pow_pos w) in
    omega arith

-- a place's bit stands among the 1024
lane_bit_below : (t lanes i : ℕ) → IsLayout t lanes → i < 1024 → lane_bit t lanes i < 1024
lane_bit_below t lanes i layout in_block =
    let in_lanes : lane_at lanes i < lanes = mod_below i lanes (some_lanes t lanes layout) in
    let inside = mul-add-lt (lane_at lanes i) t (row_at lanes i) lanes in_lanes (row_at-lt t lanes i layout in_block) in
    omega (arith, layout.area, inside)

-- a mask whose bits say more of the digits
pub mask_says : {t lanes w : ℕ} (p : List ℕ) {m : List ℕ} {answers others : ℕ → ℕ → Type 0} → w ≤ t
    → ((x bit : ℕ) → x < 2 ^ t → answers x bit → others x bit)
    → IsLaneMask t lanes answers (digit t lanes w p) m → IsLaneMask t lanes others (digit t lanes w p) m
mask_says {t} {lanes} {w} p narrow says mask = record { each = λ i in_block. says _ _ (digit_below t lanes w p i narrow) (mask.each i in_block) }

-- the mask of a comparison that holds where another does not
pub complement_tells : {t lanes : ℕ} {at : ℕ → ℕ} {m n : List ℕ} {comparison variant : Comparison} (integer : ℕ → ℤ) (value : ℤ) (other : ℤ → ℤ → Bool)
    → IsLayout t lanes → comparison ≡ variant → ((x : ℤ) → holds variant x value ≡ not (other x value))
    → IsLaneMask t lanes (Tells integer other value) at m → IsComplement m n → IsLaneMask t lanes (Tells integer (holds comparison) value) at n
complement_tells {t} {lanes} {at} {m} {n} {comparison} {variant} integer value other layout is opposite mask turned = record {
  each = λ i in_block.
      let here : holds comparison (integer (at i)) value ≡ not (other (integer (at i)) value) =
      ap (λ (k : Comparison). holds k (integer (at i)) value) is ∙ opposite (integer (at i))
      in
      turned.each _ (lane_bit_below t lanes i layout in_block) ∙ ap (λ (b : ℕ). 1 - b) (mask.each i in_block)
      ∙ other_bit (other (integer (at i)) value) ∙ ap (λ (b : Bool). if b then 1 else 0) (sym here);
}
  where
    other_bit : (b : Bool) → 1 - (if b then 1 else 0) ≡ (if not b then 1 else 0)
    other_bit true = refl
    other_bit false = refl

pub greater_where_not_at_most : (x y : ℤ) → greater_than x y ≡ not (at_most x y)
greater_where_not_at_most x y = grind (arith, ints)

pub at_least_where_not_less : (x y : ℤ) → at_least x y ≡ not (less_than x y)
at_least_where_not_less x y = grind (arith, ints)

-- the mask of a comparison that holds of all digits
pub ones_tell : {t lanes w : ℕ} (p : List ℕ) {m : List ℕ} (integer : ℕ → ℤ) (value : ℤ) (holds : ℤ → ℤ → Bool) → IsLayout t lanes → w ≤ t
    → ((x : ℕ) → x < 2 ^ t → IsTrue (holds (integer x) value)) → ((k : ℕ) → k < 16 → slice_index m k ≡ bit_not w64 0)
    → IsLaneMask t lanes (Tells integer holds value) (digit t lanes w p) m
ones_tell {t} {lanes} {w} p {m} integer value holds layout narrow always ones = record {
  each = λ i in_block.
      let b : ℕ = lane_bit t lanes i in
      let below : b < 1024 = lane_bit_below t lanes i layout in_block in
      ap (λ (x : ℕ). bit_at x (b % 64)) (ones (b / 64) (omega arith)) ∙ bit_at_not w64 0 (b % 64) (lit< tt) (omega arith)
      ∙ zero_bit (b % 64)
      ∙ ap (λ (r : Bool). if r then 1 else 0) (sym (always _ (digit_below t lanes w p i narrow)));
}
  where
    zero_bit : (k : ℕ) → 1 - bit_at 0 k ≡ 1
    zero_bit k = grind arith

-- a mask in the order of places, from the one in the order of lanes
pub filtered : {t lanes : ℕ} {at : ℕ → ℕ} {m moved : List ℕ} {answers : ℕ → ℕ → Type 0} → IsLayout t lanes
    → IsLaneMask t lanes answers at m → TransposesBits t lanes m moved → IsPlaceMask answers at moved
filtered {t} {lanes} {at} {m} {moved} {answers} layout mask moves = record {
  each = λ i in_block.
      let in_lanes : lane_at lanes i < lanes = mod_below i lanes (some_lanes t lanes layout) in
      let bit = moves.each (row_at lanes i) (lane_at lanes i) (row_at-lt t lanes i layout in_block) in_lanes in
      let moved_here : block_bit moved i ≡ block_bit m (lane_bit t lanes i) = ap (block_bit moved) (sym (place-at t lanes i layout in_block)) ∙ bit in
      subst (answers (at i)) (sym moved_here) (mask.each i in_block);
}

-- an answer that is true where two numbers are the same integer
pub same_numbers : (b : Bool) (x y : ℤ) (m n : ℕ) → (IsTrue b ↔ (x ≡ y)) → x ≡ pos m → y ≡ pos n → b ≡ (m == n)
same_numbers b x y m n iff is other = grind (arith, ints)
