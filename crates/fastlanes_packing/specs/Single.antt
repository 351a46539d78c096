-- One value of a packed block.
use Rattle.std.specs.Prelude.{◌≡◌, ℕ, ◌*◌, ◌/◌, ◌%◌, ◌<◌, List, slice_index}
use Rattle.fastlanes_base.specs.Order.{row_at}

-- where the rows of the lane 0 begin, in the order of their places, in lanes of t rows that are packed to the width w:
-- in which of the words, and at which bit of it
pub record StartsRows (t lanes w : ℕ) (words shifts : List ℕ) : Type 0 where
  pub words_at : (k : ℕ) → k < t → slice_index words k ≡ lanes * (row_at lanes (lanes * k) * w / t)
  pub shifts_at : (k : ℕ) → k < t → slice_index shifts k ≡ row_at lanes (lanes * k) * w % t
