-- A block that is filled spot by spot.
use Rattle.std.proofs.Common.{◌≡◌, ℕ, List, length, arith}
use Rattle.fastlanes_rows.specs.Block.{HasValues, IsFilled, lane_spot}

-- nothing is filled yet
pub filled_none : (inner : ℕ) (spot at : ℕ → ℕ → ℕ) (v : List ℕ) → length v ≡ 1024 → IsFilled inner spot at 0 0 v
unfolding IsFilled
filled_none inner spot at v long = record { long = long; before = λ other y h r. absurd (omega arith); here = λ y h. absurd (omega arith) }

-- all lanes are filled
pub filled_by_lanes : (t lanes : ℕ) (at : ℕ → ℕ → ℕ) (v : List ℕ) → IsFilled t lane_spot at lanes 0 v → HasValues t lanes at v
unfolding IsFilled
filled_by_lanes t lanes at v filled = record { long = filled.long; each = filled.before }
