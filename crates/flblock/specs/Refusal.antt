-- Why the program refuses.
use Rattle.std.specs.Prelude.{ℕ, List, codes}
use Rattle.flblock.specs.declared.error.BlockError.{BlockError}
use Rattle.flblock.specs.declared.error.BlockError.TheVariants.{Usage, Width, ShortInput, ReadFailed, WriteFailed}

-- what the program prints about a refusal, and the number that tells it, as the program's status
abbrev pub text_and_number : BlockError → List ℕ × ℕ
text_and_number Usage = (codes "usage: flblock ramp|pack|unpack u8|u16|u32|u64 WIDTH", 1)
text_and_number Width = (codes "width is greater than the type's bits", 2)
text_and_number ShortInput = (codes "input ended before the block was whole", 3)
text_and_number ReadFailed = (codes "reading failed", 4)
text_and_number WriteFailed = (codes "writing failed", 5)

abbrev pub refusal_text : BlockError → List ℕ
refusal_text error = (text_and_number error).0

abbrev pub refusal_number : BlockError → ℕ
refusal_number error = (text_and_number error).1
