-- What packed words hold. Words and elements have t bits, and a block has 1024 elements in `lanes` lanes of t
-- rows each; p is the list of the words' numbers, and v that of the elements'.
use Rattle.std.specs.Prelude.{◌≡◌, ℕ, ◌+◌, ◌*◌, ◌/◌, ◌%◌, ◌^◌, ◌<◌, zero, suc, List, length, map, slice_index}
use Rattle.std.specs.List.{range_with_len}
use Rattle.fastlanes_base.specs.Order.{place, lane_at, row_at}

-- the number that n digits make in the base 2 ^ bits, the lowest first: the sum of all digit k * 2 ^ (bits * k)
abbrev pub number_in_base : ℕ → (ℕ → ℕ) → ℕ → ℕ
number_in_base bits digit zero = 0
number_in_base bits digit (suc n) = number_in_base bits digit n + digit n * 2 ^ (bits * n)

-- the w words of a lane as one number in the base 2 ^ t: word k of the lane stands at lanes * k + lane
abbrev pub lane_number : ℕ → ℕ → ℕ → ℕ → List ℕ → ℕ
lane_number t lanes w lane p = number_in_base t (λ k. slice_index p (lanes * k + lane) % 2 ^ t) w

-- the elements of a lane modulo 2 ^ w, row by row, as one number in the base 2 ^ w
abbrev pub element_number : ℕ → ℕ → ℕ → List ℕ → ℕ
element_number t w lane v = number_in_base w (λ row. slice_index v (place row lane) % 2 ^ w) t

-- the digit of a row of a lane: its w bits of the lane's number
abbrev pub row_digit : ℕ → ℕ → ℕ → List ℕ → ℕ → ℕ → ℕ
row_digit t lanes w p lane row = lane_number t lanes w lane p / 2 ^ (w * row) % 2 ^ w

-- the digit at the place i
unfoldable pub digit : ℕ → ℕ → ℕ → List ℕ → ℕ → ℕ
digit t lanes w p i = row_digit t lanes w p (lane_at lanes i) (row_at lanes i)

-- the digits at all places
unfoldable pub digits : ℕ → ℕ → ℕ → List ℕ → List ℕ
digits t lanes w p = map (digit t lanes w p) (range_with_len 0 1024)

-- the words p are the elements v packed to the width w: each lane's words, as one number, are its elements modulo
-- 2 ^ w, as one number
pub record IsPacked (t lanes w : ℕ) (v p : List ℕ) : Type 0 where
  pub long : length p ≡ lanes * w
  pub each : (lane : ℕ) → lane < lanes → lane_number t lanes w lane p ≡ element_number t w lane v
