-- A block on its way: filled lane by lane and row by row, or row by row and lane by lane.
use Rattle.std.specs.Prelude.{◌≡◌, ℕ, ◌*◌, ◌%◌, ◌^◌, ◌<◌, List, length, slice_index}
use Rattle.fastlanes_base.specs.Digits.{lane_number, number_in_base}
use Rattle.fastlanes_base.specs.Order.{place}
use Rattle.fastlanes_rows.specs.Row.{HoldsDigits}

-- the list v holds at each spot what `at` gives: for all numbers below x with all those below `inner`, and for x
-- with the first n
pub record FilledParts (inner : ℕ) (spot at : ℕ → ℕ → ℕ) (x n : ℕ) (v : List ℕ) : Type 0 where
  pub long : length v ≡ 1024
  pub before : (other y : ℕ) → other < x → y < inner → slice_index v (spot other y) ≡ at other y
  pub here : (y : ℕ) → y < n → slice_index v (spot x y) ≡ at x y

-- the same, as a word whose parts a proof sees where it asks for them
unfoldable pub IsFilled : ℕ → (ℕ → ℕ → ℕ) → (ℕ → ℕ → ℕ) → ℕ → ℕ → List ℕ → Type 0
IsFilled inner spot at x n v = FilledParts inner spot at x n v

-- where the row of a lane stands in a block
abbrev pub lane_spot : ℕ → ℕ → ℕ
lane_spot lane row = place row lane

-- the block v has the value that `at` gives for each lane and row
pub record HasValues (t lanes : ℕ) (at : ℕ → ℕ → ℕ) (v : List ℕ) : Type 0 where
  pub long : length v ≡ 1024
  pub each : (lane row : ℕ) → lane < lanes → row < t → slice_index v (place row lane) ≡ at lane row

-- each lane's words, as one number, are the values that `at` gives for its rows, modulo 2 ^ w, as one number
pub record PacksValues (t lanes w : ℕ) (at : ℕ → ℕ → ℕ) (p : List ℕ) : Type 0 where
  pub long : length p ≡ lanes * w
  pub each : (lane : ℕ) → lane < lanes → lane_number t lanes w lane p ≡ number_in_base w (λ row. at lane row % 2 ^ w) t

-- all lanes below `lane`, and the first n rows of that lane, are packed; `at` gives the value of a lane and a row, and
-- `carry` has the bits that fill no word
pub record HeldParts (t lanes w : ℕ) (at : ℕ → ℕ → ℕ) (lane n : ℕ) (p : List ℕ) (carry : ℕ) : Type 0 where
  pub long : length p ≡ lanes * w
  pub before : (other : ℕ) → other < lane → lane_number t lanes w other p ≡ number_in_base w (λ row. at other row % 2 ^ w) t
  pub here : HoldsDigits t lanes w lane n (at lane) p carry

-- the same, as a word whose parts a proof sees where it asks for them
unfoldable pub IsHeld : ℕ → ℕ → ℕ → (ℕ → ℕ → ℕ) → ℕ → ℕ → List ℕ → ℕ → Type 0
IsHeld t lanes w at lane n p carry = HeldParts t lanes w at lane n p carry

-- the value of a row of a lane in a block
abbrev pub row_value : List ℕ → ℕ → ℕ → ℕ
row_value v lane row = slice_index v (place row lane)
