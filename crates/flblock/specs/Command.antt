-- What a command reads and writes.
use Rattle.std.specs.Prelude.{ℕ, ◌*◌, List}
use Rattle.flblock.specs.declared.command.Command.{Command}
use Rattle.flblock.specs.declared.command.Verb.{Verb}
use Rattle.flblock.specs.declared.command.Verb.TheVariants.{Ramp, Pack, Unpack}
use Rattle.flblock.specs.Bytes.{IsPackedBytes, IsUnpackedBytes}
use Rattle.flblock.specs.Element.{bits_of, lanes_of}
use Rattle.flblock.specs.Ramp.{IsRampText}

-- how many bytes a verb reads, for words of t bits at the width w
abbrev pub verb_input_len : Verb → ℕ → ℕ → ℕ
verb_input_len Ramp t w = 0
verb_input_len Pack t w = 128 * t
verb_input_len Unpack t w = 128 * w

-- what a verb writes after it read the block, for words of t bits, in so many lanes, at the width w
abbrev pub Writes : Verb → ℕ → ℕ → ℕ → List ℕ → List ℕ → Type 0
Writes Ramp t lanes w block output = IsRampText t lanes w output
Writes Pack t lanes w block output = IsPackedBytes t lanes w block output
Writes Unpack t lanes w block output = IsUnpackedBytes t lanes w block output

-- how many bytes a command reads
abbrev pub input_len : Command → ℕ
input_len c = verb_input_len c.verb (bits_of c.element) c.width

-- what it writes after it read the block
abbrev pub IsOutput : Command → List ℕ → List ℕ → Type 0
IsOutput c block output = Writes c.verb (bits_of c.element) (lanes_of c.element) c.width block output
