-- The element types of a block.
use Rattle.std.specs.Prelude.{◌≡◌, ◌⊎◌, ℕ, ◌*◌}

-- how many bits an element has: a word of the type is a number below 2 ^ t
abbrev pub IsWordSize : ℕ → Type 0
IsWordSize t = (t ≡ 8) ⊎ (t ≡ 16) ⊎ (t ≡ 32) ⊎ (t ≡ 64)

-- a block has so many lanes of t rows each, a row for each bit of an element
pub record IsLayout (t lanes : ℕ) : Type 0 where
  pub size : IsWordSize t
  pub area : t * lanes ≡ 1024
