-- Differences along the lanes of a block, and what they add up to. Elements are numbers below 2 ^ t; `base` has one for
-- each lane, and `at` gives the value of a lane and a row.
use Rattle.std.specs.Prelude.{◌≡◌, ◌↔◌, ℕ, ◌+◌, ◌^◌, ◌<◌, zero, suc, All, List, map, slice_index, sum}
use Rattle.std.specs.List.{range_with_len}
use Rattle.fastlanes_base.specs.Order.{lane_at, row_at}
use Rattle.fastlanes_rows.specs.Block.{row_value}
use Rattle.fastlanes_packing.specs.Packing.{low_bits}
use Rattle.fastlanes.specs.Frame.{word_difference, word_sum}

-- what stands before a row: the value of the row before it, and the lane's base before the first
abbrev pub row_before : List ℕ → (ℕ → ℕ → ℕ) → ℕ → ℕ → ℕ
row_before base at lane zero = slice_index base lane
row_before base at lane (suc row) = at lane row

-- the difference of a row's value from what stands before it
abbrev pub row_delta : ℕ → List ℕ → (ℕ → ℕ → ℕ) → ℕ → ℕ → ℕ
row_delta t base at lane row = word_difference t (at lane row) (row_before base at lane row)

-- the lane's base plus the sum of the values of the rows 0 to `row`
abbrev pub row_undelta : ℕ → List ℕ → (ℕ → ℕ → ℕ) → ℕ → ℕ → ℕ
row_undelta t base at lane row = word_sum t (slice_index base lane) (sum (map (at lane) (range_with_len 0 (row + 1))))

-- the differences at all places of the block v
unfoldable pub deltas : ℕ → ℕ → List ℕ → List ℕ → List ℕ
deltas t lanes base v = map (λ i. row_delta t base (row_value v) (lane_at lanes i) (row_at lanes i)) (range_with_len 0 1024)

-- what the differences d add up to at all places
unfoldable pub undeltas : ℕ → ℕ → List ℕ → List ℕ → List ℕ
undeltas t lanes base d = map (λ i. row_undelta t base (row_value d) (lane_at lanes i) (row_at lanes i)) (range_with_len 0 1024)

-- d are the differences of the block v: from a packed block the elements come back exactly where every difference is
-- below 2 ^ w
abbrev pub SmallOnesComeBack : ℕ → ℕ → ℕ → List ℕ → List ℕ → List ℕ → Type 0
SmallOnesComeBack t lanes w base v d = (undeltas t lanes base (low_bits w d) ≡ v) ↔ All (λ x. x < 2 ^ w) d
