-- What is written of a number.
use Rattle.std.specs.Prelude.{◌≡◌, ℕ, ◌+◌, List, drop, take}
use Rattle.fastlanes_format.specs.Format.{number_at}

-- so many bytes are the number, from a place on, and the others are as they were
pub record PutsNumber (size at n : ℕ) (old new : List ℕ) : Type 0 where
  pub number : number_at size new at ≡ n
  pub before : take at new ≡ take at old
  pub behind : drop (at + size) new ≡ drop (at + size) old
