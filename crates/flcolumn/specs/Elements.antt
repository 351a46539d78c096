-- The element types that the program knows.
use Rattle.std.specs.Prelude.{ℕ, ◌/◌}
use Rattle.flcolumn_words.specs.declared.command.ElementType.{ElementType}
use Rattle.flcolumn_words.specs.declared.command.ElementType.TheVariants.{U8, U16, U32, U64}

-- how many bits an element has
abbrev pub bits_of : ElementType → ℕ
bits_of U8 = 8
bits_of U16 = 16
bits_of U32 = 32
bits_of U64 = 64

-- how many lanes a block of elements of so many bits has
abbrev pub lanes_of : ℕ → ℕ
lanes_of bits = 1024 / bits
