-- Words that are filled lane by lane, and in a lane row by row.
use Rattle.std.proofs.Common.{◌≡◌, ℕ, ◌*◌, ◌<◌, List, length, arith}
use Rattle.fastlanes_rows.specs.Block.{IsHeld, PacksValues}
use Rattle.fastlanes_rows.proofs.PackedRows.{held_none}

-- no lane is packed yet
pub block_none : (t lanes w : ℕ) (at : ℕ → ℕ → ℕ) (p : List ℕ) (carry : ℕ) → 0 < t → carry ≡ 0 → length p ≡ lanes * w → IsHeld t lanes w at 0 0 p carry
unfolding IsHeld
block_none t lanes w at p carry z e long = record {
  long = long;
  before = λ other h. absurd (omega arith);
  here = held_none t lanes w 0 (at 0) p carry z e;
}

-- all lanes are packed
pub block_all : (t lanes w : ℕ) (at : ℕ → ℕ → ℕ) (p : List ℕ) (carry : ℕ) → IsHeld t lanes w at lanes 0 p carry → PacksValues t lanes w at p
unfolding IsHeld
block_all t lanes w at p carry held = record { long = held.long; each = held.before }
