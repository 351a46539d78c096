-- Transposes of a block's bits by its bytes, which are sixteen groups of eight.
use Rattle.std.specs.Prelude.{◌≡◌, ℕ, ◌+◌, ◌-◌, ◌*◌, ◌/◌, ◌%◌, ◌<◌, List, slice_index}
use Rattle.std.specs.Int.{bit_at}
use Rattle.fastlanes_base.specs.Order.{order}

-- f takes each number below n at exactly one number below n, and no other
pub record PermutesBelow (f : ℕ → ℕ) (n : ℕ) : Type 0 where
  pub below : (k : ℕ) → k < n → f k < n
  pub once : (j k : ℕ) → j < n → k < n → f j ≡ f k → j ≡ k
  pub takes : (m : ℕ) → m < n → (k : ℕ) × (k < n) × (f k ≡ m)

-- byte n of ys is the byte of xs that `at` names, and so each byte is moved once
pub record MovesBytes (at : ℕ → ℕ) (xs ys : List ℕ) : Type 0 where
  pub once : PermutesBelow at 128
  pub each : (n : ℕ) → n < 128 → slice_index ys n ≡ slice_index xs (at n)

-- each of k groups of eight bytes is eight rows of eight bits, and the rows of that of xs are the columns of that of ys
pub record TransposesEach (k : ℕ) (xs ys : List ℕ) : Type 0 where
  pub each : (g r c : ℕ) → g < k → r < 8 → c < 8
      → bit_at (slice_index ys (8 * g + c)) r ≡ bit_at (slice_index xs (8 * g + r)) c

-- all groups of a block, and those of half a block
abbrev pub TransposesGroups : List ℕ → List ℕ → Type 0
TransposesGroups = TransposesEach 16

abbrev pub TransposesHalf : List ℕ → List ℕ → Type 0
TransposesHalf = TransposesEach 8

-- the bytes of ys are those of xs, moved to groups by `together`, these transposed, and their bytes moved by `apart`
pub record MovesByGroups (together apart : ℕ → ℕ) (xs ys : List ℕ) : Type 0 where
  pub groups : List ℕ
  pub turned : List ℕ
  pub gathered : MovesBytes together xs groups
  pub transposed : TransposesGroups groups turned
  pub scattered : MovesBytes apart turned ys

-- Group g has eight lanes, from lane 8 * (g / (t / 8)) on, and eight rows, from row 8 * (g % (t / 8)) on. The tables of
-- bytes, of groups and of blocks in the order of lanes and in that of places, for lanes of t bits.

-- byte n of the groups is this byte of the block in the order of lanes
abbrev pub gather_place : ℕ → ℕ → ℕ
gather_place t n = n / 8 / (t / 8) * t + n / 8 % (t / 8) + n % 8 * (t / 8)

-- byte n of the block in the order of places is this byte of the transposed groups
abbrev pub scatter_place : ℕ → ℕ → ℕ
scatter_place t n = (n % (128 / t) * (t / 8) + slice_index order ((n % 16 - n % (128 / t)) / 2)) * 8 + n / 16

-- byte n of the groups is this byte of the block in the order of places
abbrev pub unscatter_place : ℕ → ℕ → ℕ
unscatter_place t n = slice_index order (n / 8 % (t / 8)) * 2 + n / 8 / (t / 8) + n % 8 * 16

-- byte n of the block in the order of lanes is this byte of the transposed groups
abbrev pub ungather_place : ℕ → ℕ → ℕ
ungather_place t n = (n / t * (t / 8) + n % (t / 8)) * 8 + n % t / (t / 8)
