-- The element types that a command can name.
use Rattle.std.specs.Prelude.{ℕ, ◌/◌, List, codes}
use Rattle.flblock.specs.declared.command.ElementType.{ElementType}
use Rattle.flblock.specs.declared.command.ElementType.TheVariants.{U8, U16, U32, U64}

-- how many bits an element has, and the word that names the type
abbrev pub bits_and_word : ElementType → ℕ × List ℕ
bits_and_word U8 = (8, codes "u8")
bits_and_word U16 = (16, codes "u16")
bits_and_word U32 = (32, codes "u32")
bits_and_word U64 = (64, codes "u64")

abbrev pub bits_of : ElementType → ℕ
bits_of element = (bits_and_word element).0

abbrev pub element_word : ElementType → List ℕ
element_word element = (bits_and_word element).1

-- how many lanes a block of them has
abbrev pub lanes_of : ElementType → ℕ
lanes_of element = 1024 / bits_of element
