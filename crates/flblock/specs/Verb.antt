-- What a command can do.
use Rattle.std.specs.Prelude.{ℕ, List, codes}
use Rattle.flblock.specs.declared.command.Verb.{Verb}
use Rattle.flblock.specs.declared.command.Verb.TheVariants.{Ramp, Pack, Unpack}

-- the word that names the verb
abbrev pub verb_word : Verb → List ℕ
verb_word Ramp = codes "ramp"
verb_word Pack = codes "pack"
verb_word Unpack = codes "unpack"
