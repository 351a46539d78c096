-- The order of a block of 1024 elements, which falls into lanes of as many rows as an element has bits.
use Rattle.std.specs.Prelude.{ℕ, ◌+◌, ◌-◌, ◌*◌, ◌/◌, ◌%◌, List, [], ◌∷◌, slice_index}

-- the order in which eight rows follow eight rows
abbrev pub order : List ℕ
order = 0 ∷ 4 ∷ 2 ∷ 6 ∷ 1 ∷ 5 ∷ 3 ∷ 7 ∷ []

-- the place in the block of a row of a lane
abbrev pub place : ℕ → ℕ → ℕ
place row lane = slice_index order (row / 8) * 16 + (row % 8) * 128 + lane

-- the lane that holds the place i, in a block of so many lanes
abbrev pub lane_at : ℕ → ℕ → ℕ
lane_at lanes i = i % lanes

-- the row of that lane which stands at the place i
abbrev pub row_at : ℕ → ℕ → ℕ
row_at lanes i = slice_index order ((i % 128 - lane_at lanes i) / 16) * 8 + i / 128

-- the place of a block whose element stands at the place i once the block is transposed
abbrev pub transposed_index : ℕ → ℕ
transposed_index i = (i % 16) * 64 + slice_index order (i / 16 % 8) * 8 + i / 128
