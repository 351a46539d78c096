-- Elements moved between the order of the lanes and that of their neighbours. v is the list of a block's 1024 elements.
use Rattle.std.specs.Prelude.{◌≡◌, ℕ, ◌+◌, ◌*◌, ◌/◌, ◌%◌, ◌<◌, List, length, map, slice_index}
use Rattle.std.specs.List.{range_with_len}
use Rattle.fastlanes_base.specs.Order.{order, place, transposed_index}

-- at each place, the element at its transposed index
unfoldable pub transposed : List ℕ → List ℕ
transposed v = map (λ i. slice_index v (transposed_index i)) (range_with_len 0 1024)

-- the place of which j is the transposed index, for j below 1024
abbrev pub original_index : ℕ → ℕ
original_index j = place (j % 64) (j / 64)

-- at the transposed index of each place, the element at that place
unfoldable pub untransposed : List ℕ → List ℕ
untransposed v = map (λ j. slice_index v (original_index j)) (range_with_len 0 1024)

-- the element at a place of the block v transposed, and of the block of which v is the transposed one
abbrev pub transposed_value : List ℕ → ℕ → ℕ
transposed_value v i = slice_index v (transposed_index i)

abbrev pub original_value : List ℕ → ℕ → ℕ
original_value v j = slice_index v (original_index j)

-- a tile is eight rows of eight of the sixteen lanes of 64 rows: where its first row begins, of which the next one follows 128
-- places after
abbrev pub rows_start : ℕ → ℕ
rows_start tile = tile * 8

-- where the neighbours in its first lane begin in the original, of which those in the next lane follow 64 places after
abbrev pub neighbours_start : ℕ → ℕ
neighbours_start tile = tile % 2 * 512 + slice_index order (tile / 2) * 8

-- the block v has what g gives at the places of the first n tiles, of eight runs of eight, each `step` places after the one before
pub record HoldsTiles (start : ℕ → ℕ) (step n : ℕ) (g : ℕ → ℕ) (v : List ℕ) : Type 0 where
  pub long : length v ≡ 1024
  pub each : (tile a b : ℕ) → tile < n → a < 8 → b < 8 → slice_index v (start tile + step * b + a) ≡ g (start tile + step * b + a)
