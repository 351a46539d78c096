-- What is found of the digits of a block without unpacking it: a hash, which depends on their order, and their spread.
use Rattle.std.specs.Prelude.{ℕ, ◌+◌, ◌*◌, ◌%◌, ◌^◌, List}
use Rattle.std.specs.List.{fold}
use Rattle.fastlanes_blocks.specs.Ranges.{IsGreatest, IsLeast}

-- the hash after one number more
abbrev pub hashed : ℕ → ℕ → ℕ
hashed hash x = (hash * 31 + x) % 2 ^ 64

-- the hash after numbers that come in this order, from the hash before them
abbrev pub hash_after : ℕ → List ℕ → ℕ
hash_after hash numbers = fold hashed hash numbers

-- the greatest of these numbers is by x above the least
abbrev pub IsSpread : ℕ → List ℕ → Type 0
IsSpread x numbers = (least : ℕ) × IsLeast least numbers × IsGreatest (least + x) numbers
