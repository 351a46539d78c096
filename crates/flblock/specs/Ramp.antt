-- The text of a ramp.
use Rattle.std.specs.Prelude.{◌≡◌, ℕ, zero, suc, ◌/◌, ◌%◌, ◌^◌, List, [], ◌∷◌, ◌++◌, map, slice_index, codes}
use Rattle.std.specs.List.{flat_map, range_with_len}
use Rattle.fastlanes.specs.Digits.{IsPacked}

-- the values of a ramp: at the place i, i modulo 2 ^ w
unfoldable pub ramp_values : ℕ → List ℕ
ramp_values w = map (λ i. i % 2 ^ w) (range_with_len 0 1024)

-- a number as n lowercase hexadecimal digits, the digit of 16 ^ (n - 1) first
unfoldable pub hex_text : ℕ → ℕ → List ℕ
hex_text zero x = []
hex_text (suc n) x = slice_index (codes "0123456789abcdef") (x / 16 ^ n % 16) ∷ hex_text n x

-- a word of t bits as a line: a digit for four bits each, and a line feed
abbrev pub line_of : ℕ → ℕ → List ℕ
line_of t x = hex_text (t / 4) x ++ 10 ∷ []

-- words as lines
abbrev pub lines_of : ℕ → List ℕ → List ℕ
lines_of t words = flat_map (line_of t) words

-- the text has the lines of a ramp's words, packed to the width w
pub record IsRampText (t lanes w : ℕ) (text : List ℕ) : Type 0 where
  pub words : List ℕ
  pub packed : IsPacked t lanes w (ramp_values w) words
  pub lines : text ≡ lines_of t words
