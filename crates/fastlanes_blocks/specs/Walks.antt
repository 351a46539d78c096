-- The order in which a walk by rows of n lanes comes to the places of a block: to all t rows of the first n lanes, one after
-- another, then to those of the next n lanes.
use Rattle.std.specs.Prelude.{ℕ, ◌+◌, ◌*◌, ◌/◌, ◌%◌, List, map}
use Rattle.std.specs.List.{range_with_len}
use Rattle.fastlanes_base.specs.Digits.{digit}
use Rattle.fastlanes_base.specs.Order.{lane_at, place, row_at}

-- the place that comes after k others
abbrev pub walk_place : ℕ → ℕ → ℕ → ℕ
walk_place t n k = place (k / n % t) (n * (k / n / t) + k % n)

-- the first `count` places
abbrev pub walk_places : ℕ → ℕ → ℕ → List ℕ
walk_places t n count = map (walk_place t n) (range_with_len 0 count)

-- these places of a block of so many lanes, each with what `at` gives for its lane and row
abbrev pub with_values : ℕ → (ℕ → ℕ → ℕ) → List ℕ → List (ℕ × ℕ)
with_values lanes at places = map (λ i. (i, at (lane_at lanes i) (row_at lanes i))) places

-- n places from `from` on, each with one of n values
abbrev pub row_values : ℕ → ℕ → (ℕ → ℕ) → List (ℕ × ℕ)
row_values n from value = map (λ j. (from + j, value j)) (range_with_len 0 n)

-- all places of a block, each with the digit there
abbrev pub walk_digits : ℕ → ℕ → ℕ → ℕ → List ℕ → List (ℕ × ℕ)
walk_digits t n lanes w p = map (λ i. (i, digit t lanes w p i)) (walk_places t n 1024)

-- the block of what a function gives for its places
abbrev pub block_of : (ℕ → ℕ) → List ℕ
block_of value = map value (range_with_len 0 1024)
