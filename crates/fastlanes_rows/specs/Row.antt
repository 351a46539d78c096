-- The rows of one lane, packed one after another.
use Rattle.std.specs.Prelude.{◌≡◌, ℕ, ◌+◌, ◌*◌, ◌/◌, ◌%◌, ◌^◌, ◌<◌, List, slice_index}
use Rattle.fastlanes_base.specs.Digits.{number_in_base}

-- the bits left of the rows before, with those of a row's value at width w above them
abbrev pub with_row : ℕ → ℕ → ℕ → ℕ → ℕ → ℕ
with_row t w row carry value = carry + value % 2 ^ w * 2 ^ (row * w % t)

-- x is the word in which the bits of a row begin, where the row before it has bits there too
pub record CarriesWord (t lanes w lane row : ℕ) (p : List ℕ) (x : ℕ) : Type 0 where
  pub is : 0 < row * w % t → slice_index p (lanes * (row * w / t) + lane) ≡ x

-- the words of a lane, with the bits in `carry` that fill no word, hold the first n rows; `at` gives each row's value
pub record HoldsDigits (t lanes w lane n : ℕ) (at : ℕ → ℕ) (p : List ℕ) (carry : ℕ) : Type 0 where
  pub below : carry < 2 ^ (n * w % t)
  pub sum : number_in_base t (λ k. slice_index p (lanes * k + lane) % 2 ^ t) (n * w / t) + carry * 2 ^ (t * (n * w / t)) ≡ number_in_base w (λ row. at row % 2 ^ w) n
