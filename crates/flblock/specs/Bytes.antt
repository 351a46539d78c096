-- Blocks as bytes.
use Rattle.std.specs.Prelude.{◌≡◌, ℕ, ◌*◌, List}
use Rattle.fastlanes.specs.Digits.{IsPacked, digits}
use Rattle.fastlanes_bytes.specs.Bytes.{HasWords, bytes_of}

-- the output has the bytes of the words that the block's 1024 values are packed to
pub record IsPackedBytes (t lanes w : ℕ) (block output : List ℕ) : Type 0 where
  pub values : List ℕ
  pub words : List ℕ
  pub block_values : HasWords t 1024 values block
  pub packed : IsPacked t lanes w values words
  pub output_bytes : output ≡ bytes_of t words

-- the output has the bytes of the digits that the block's words hold
pub record IsUnpackedBytes (t lanes w : ℕ) (block output : List ℕ) : Type 0 where
  pub words : List ℕ
  pub block_words : HasWords t (lanes * w) words block
  pub output_bytes : output ≡ bytes_of t (digits t lanes w words)
