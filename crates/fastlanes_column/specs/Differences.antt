-- Blocks packed as the differences of their neighbours.
use Rattle.std.specs.Prelude.{◌≡◌, ◌↔◌, ℕ, ◌-◌, ◌%◌, ◌^◌, ◌<◌, zero, suc, All, List, map, slice_index}
use Rattle.std.specs.List.{range_with_len}
use Rattle.fastlanes.specs.Delta.{deltas, undeltas}
use Rattle.fastlanes.specs.Digits.{digits}
use Rattle.fastlanes.specs.Frame.{word_difference}
use Rattle.fastlanes.specs.Order.{transposed_index}
use Rattle.fastlanes.specs.Transposition.{transposed, untransposed}

-- v comes back from the words p, in which the differences of its neighbours are packed to the width w, exactly where each
-- of these is below 2 ^ w
abbrev pub NeighboursComeBack : ℕ → ℕ → ℕ → List ℕ → List ℕ → List ℕ → Type 0
NeighboursComeBack t lanes w base v p =
    (untransposed (undeltas t lanes base (digits t lanes w p)) ≡ v) ↔ All (λ x. x < 2 ^ w) (deltas t lanes base (transposed v))

-- the value before place j of a block, where `before` stands before its first
abbrev pub value_before : ℕ → List ℕ → ℕ → ℕ
value_before before v zero = before
value_before before v (suc j) = slice_index v j

-- value j of a block less what precedes it, modulo 2 ^ t
abbrev pub delta_from : ℕ → List ℕ → (ℕ → ℕ) → ℕ → ℕ
delta_from t v before j = word_difference t (slice_index v j) (before j)

-- all of these differences
unfoldable pub deltas_from : ℕ → List ℕ → (ℕ → ℕ) → List ℕ
deltas_from t v before = map (delta_from t v before) (range_with_len 0 1024)

-- each value of a block less the value before it
abbrev pub neighbour_deltas : ℕ → ℕ → List ℕ → List ℕ
neighbour_deltas t before v = deltas_from t v (value_before before v)

-- for each lane of a block that is transposed, the value before the one with which the lane begins
unfoldable pub lane_bases : ℕ → ℕ → List ℕ → List ℕ
lane_bases lanes before v = map (λ lane. value_before before v (transposed_index lane)) (range_with_len 0 lanes)

-- `before` gives what precedes each value of the block v in its lane, once the block is transposed: the base of the lane that the
-- value begins, at a multiple of t, or the value before it
pub record PrecedesInLanes (t lanes : ℕ) (base v : List ℕ) (before : ℕ → ℕ) : Type 0 where
  pub first : (lane : ℕ) → lane < lanes → before (transposed_index lane) ≡ slice_index base lane
  pub others : (j : ℕ) → j < 1024 → 0 < j % t → before j ≡ slice_index v (j - 1)
