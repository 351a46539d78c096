-- Comparisons of the values of a frame.
use Rattle.std.proofs.Common.{◌≡◌, ℕ, ℤ, ◌+◌, ◌<◌, ◌∙◌, Bool, List, ap, arith, if◌then◌else◌, length, nat_lt, pos, sym}
use Rattle.std.proofs.lemmas.Int.{ints}
use Rattle.std.specs.List.{slice_index}
use Rattle.fastlanes.specs.Bits.{block_bit}
use Rattle.fastlanes.specs.Mask.{IsPlaceMask}
use Rattle.fastlanes_blocks.specs.Comparisons.{Tells, holds}
use Rattle.fastlanes_blocks.specs.declared.filters.Comparison.{Comparison}
use Rattle.fastlanes_blocks.specs.declared.filters.Comparison.TheVariants.{AtLeast, AtMost, Equal, Greater, Less, NotEqual}
use Rattle.fastlanes_pages.specs.Masks.{IsMask, holds_of}
use Rattle.fastlanes_pages.proofs.MaskBits.{mask_of}

-- a comparison says the same of a number and a value as of two others in the same order
same_order : (comparison : Comparison) (value x other y : ℕ) → nat_lt x value ≡ nat_lt y other → nat_lt value x ≡ nat_lt other y
    → holds_of comparison value x ≡ holds_of comparison other y
unfolding holds_of
same_order Equal value x other y less greater = grind (arith, ints)
same_order NotEqual value x other y less greater = grind (arith, ints)
same_order Less value x other y less greater = grind (arith, ints)
same_order AtMost value x other y less greater = grind (arith, ints)
same_order Greater value x other y less greater = grind (arith, ints)
same_order AtLeast value x other y less greater = grind (arith, ints)

-- what a comparison with a value says of greater numbers, and of less ones: as of 1 and 0, and of 0 and 1
abbrev pub of_greater : Comparison → Bool
of_greater comparison = holds comparison (pos 1) (pos 0)

abbrev pub of_less : Comparison → Bool
of_less comparison = holds comparison (pos 0) (pos 1)

pub greater_said : (comparison : Comparison) (value x : ℕ) → value < x → holds_of comparison value x ≡ of_greater comparison
unfolding holds_of
greater_said comparison value x far = same_order comparison value x 0 1 (grind (arith)) (grind (arith))

pub less_said : (comparison : Comparison) (value x : ℕ) → x < value → holds_of comparison value x ≡ of_less comparison
unfolding holds_of
less_said comparison value x far = same_order comparison value x 1 0 (grind (arith)) (grind (arith))

-- a number is compared with a value as their sums with another are
same_beside : (comparison : Comparison) (value x r : ℕ) → holds_of comparison value x ≡ holds_of comparison (value + r) (x + r)
same_beside comparison value x r = same_order comparison value x (value + r) (x + r) (grind (arith)) (grind (arith))

-- a mask of digits tells of the numbers that they are
module _ (integer : ℕ → ℤ) (comparison : Comparison) (value : ℤ) (number : ℕ) (at : ℕ → ℕ) (values mask : List ℕ)
    (same : (x : ℕ) → integer x ≡ pos x) (is : value ≡ pos number) (long : length mask ≡ 16) (count : length values ≡ 1024)
    (told : IsPlaceMask (Tells integer (holds comparison) value) at mask) where
  tells : (i : ℕ) → i < 1024 → block_bit mask i ≡ (if holds_of comparison number (at i) then 1 else 0)
  unfolding holds_of
  tells i inside =
      told.each i inside ∙ ap (λ z. if holds comparison z value then 1 else 0) (same (at i))
      ∙ ap (λ z. if holds comparison (pos (at i)) z then 1 else 0) is

  -- values that are the digits
  pub mask_of_digits : ((i : ℕ) → i < 1024 → at i ≡ slice_index values i) → IsMask (holds_of comparison number) values mask
  mask_of_digits are = mask_of (holds_of comparison number) values mask count long (λ i inside.
      tells i inside ∙ ap (λ (x : ℕ). if holds_of comparison number x then 1 else 0) (are i inside))

  -- values that are their sums with the reference
  pub mask_of_sums : (reference : ℕ) → ((i : ℕ) → i < 1024 → slice_index values i ≡ at i + reference)
      → IsMask (holds_of comparison (number + reference)) values mask
  mask_of_sums reference are = mask_of (holds_of comparison (number + reference)) values mask count long (λ i inside.
      tells i inside ∙ ap (λ (b : Bool). if b then 1 else 0) (same_beside comparison number (at i) reference)
      ∙ ap (λ (x : ℕ). if holds_of comparison (number + reference) x then 1 else 0) (sym (are i inside)))
