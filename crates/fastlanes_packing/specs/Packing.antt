-- What packing a block and unpacking one give. v is the list of the block's elements, p that of the words.
use Rattle.std.specs.Prelude.{◌≡◌, ℕ, ◌%◌, ◌^◌, ◌<◌, All, List, length, map, slice_index}
use Rattle.fastlanes_base.specs.Digits.{IsPacked, digit, digits}

-- what is left of the numbers at the width w
unfoldable pub low_bits : ℕ → List ℕ → List ℕ
low_bits w v = map (λ x. x % 2 ^ w) v

-- v is the only block of numbers below 2 ^ w that packs to the words
abbrev pub IsOnlyBlock : ℕ → ℕ → ℕ → List ℕ → List ℕ → Type 0
IsOnlyBlock t lanes w p v =
    (other : List ℕ) → length other ≡ 1024 → All (λ x. x < 2 ^ w) other → IsPacked t lanes w other p → other ≡ v

-- the words are the elements, packed
pub record PacksBlock (t lanes w : ℕ) (v p : List ℕ) : Type 0 where
  pub packed : IsPacked t lanes w v p
  pub digits : digits t lanes w p ≡ low_bits w v
  pub places : (i : ℕ) → i < 1024 → digit t lanes w p i ≡ slice_index v i % 2 ^ w

-- the elements are the words, unpacked
pub record UnpacksBlock (t lanes w : ℕ) (p v : List ℕ) : Type 0 where
  pub digits : v ≡ digits t lanes w p
  pub places : (i : ℕ) → i < 1024 → slice_index v i ≡ digit t lanes w p i
  pub below : All (λ x. x < 2 ^ w) v
  pub packs : IsPacked t lanes w v p
  pub only : IsOnlyBlock t lanes w p v
