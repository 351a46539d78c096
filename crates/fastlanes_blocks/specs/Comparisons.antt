-- Comparisons of integers, and the bits that tell of numbers whether they hold.
use Rattle.std.specs.Prelude.{◌≡◌, ℕ, ℤ, Bool, ◌-◌, ◌<◌, List, if◌then◌else◌, int_le, int_lt, not}
use Rattle.std.specs.Ordering.{int_eq}
use Rattle.fastlanes.specs.Bits.{block_bit}
use Rattle.fastlanes_blocks.specs.declared.filters.Comparison.{Comparison}
use Rattle.fastlanes_blocks.specs.declared.filters.Comparison.TheVariants.{AtLeast, AtMost, Equal, Greater, Less, NotEqual}

-- the six comparisons of x with y
abbrev pub equals : ℤ → ℤ → Bool
equals x y = int_eq x y

abbrev pub unequal : ℤ → ℤ → Bool
unequal x y = not (int_eq x y)

abbrev pub less_than : ℤ → ℤ → Bool
less_than x y = int_lt x y

abbrev pub at_most : ℤ → ℤ → Bool
at_most x y = int_le x y

abbrev pub greater_than : ℤ → ℤ → Bool
greater_than x y = int_lt y x

abbrev pub at_least : ℤ → ℤ → Bool
at_least x y = int_le y x

-- whether a comparison holds of x and y
abbrev pub holds : Comparison → ℤ → ℤ → Bool
holds Equal = equals
holds NotEqual = unequal
holds Less = less_than
holds AtMost = at_most
holds Greater = greater_than
holds AtLeast = at_least

-- the bit is 1 where the comparison holds of the integer that x stands for and the value, and 0 where it does not
abbrev pub Tells : (ℕ → ℤ) → (ℤ → ℤ → Bool) → ℤ → ℕ → ℕ → Type 0
Tells integer holds value x bit = bit ≡ (if holds (integer x) value then 1 else 0)

-- each bit of one block of bits is 1 where the other's is 0
pub record IsComplement (m n : List ℕ) : Type 0 where
  pub each : (b : ℕ) → b < 1024 → block_bit n b ≡ 1 - block_bit m b
