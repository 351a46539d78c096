-- Words as bytes.
use Rattle.std.specs.Prelude.{◌≡◌, ℕ, ◌/◌, ◌^◌, ◌<◌, List, length, All}
use Rattle.std.specs.Int.{bytes_low_first}
use Rattle.std.specs.List.{flat_map}

-- the bytes of a word of t bits, the lowest first
abbrev pub word_bytes : ℕ → ℕ → List ℕ
word_bytes t x = bytes_low_first 0 (t / 8) x

-- the bytes of words, one word after another
abbrev pub bytes_of : ℕ → List ℕ → List ℕ
bytes_of t words = flat_map (word_bytes t) words

-- the bytes are those of n words of t bits
pub record HasWords (t n : ℕ) (words bytes : List ℕ) : Type 0 where
  pub whole : length words ≡ n
  pub below : All (λ x. x < 2 ^ t) words
  pub same : bytes ≡ bytes_of t words
