-- What words ask the program for.
use Rattle.std.specs.Prelude.{◌≡◌, ℕ, ◌^◌, ◌<◌, All, Bool, IsSomeAnd, List, [], Option, Some, codes, false, length, map, not, option_map, true}
use Rattle.std.specs.Char.{IsAsciiDigit}
use Rattle.std.specs.Str.Parse.{digits_value}
use Rattle.clap.specs.Words.{Row, Text, all_of, fault_of, first_of, one_of, subcommand_of}
use Rattle.flcolumn_words.specs.Commands.{all_commands}
use Rattle.flcolumn_words.specs.declared.command.ElementType.{ElementType}
use Rattle.flcolumn_words.specs.declared.command.ElementType.TheVariants.{U8, U16, U32, U64}
use Rattle.flcolumn_words.specs.declared.command.Names.{Names}
use Rattle.flcolumn_words.specs.declared.command.Request.{Request}
use Rattle.flcolumn_words.specs.declared.command.Request.TheVariants.{Encode, Decode, Info, Get}
use Rattle.flcolumn_words.specs.declared.command.Task.{Task}

-- the word that names an element type
abbrev pub element_word : ElementType → Text
element_word U8 = codes "u8"
element_word U16 = codes "u16"
element_word U32 = codes "u32"
element_word U64 = codes "u64"

-- whether a flag is among the words
abbrev pub IsFlag : Text → List Row → Bool → Type 0
IsFlag id rows given = (one_of id rows ≡ Some (codes "true") → given ≡ true) × (one_of id rows ≡ Some (codes "false") → given ≡ false)

-- decimal digits, which write a number below 2 ^ 64
pub record IsNumber (text : Text) : Type 0 where
  pub some : 0 < length text
  pub digits_only : All IsAsciiDigit text
  pub below : digits_value 10 text < 2 ^ 64

-- the texts are numbers, and these are what they write
pub record Write (texts : List Text) (numbers : List ℕ) : Type 0 where
  pub each : All IsNumber texts
  pub values : numbers ≡ map (digits_value 10) texts

-- a subcommand of this name, with these matches, asks for this
abbrev pub Asks : Text → List Row → Request → Type 0
Asks name rows (Encode element frames_only checked) = (name ≡ codes "encode") × (first_of (codes "TYPE") rows ≡ Some (element_word element))
    × IsFlag (codes "for-only") rows frames_only × IsFlag (codes "no-checksums") rows (not checked)
Asks name rows Decode = name ≡ codes "decode"
Asks name rows Info = name ≡ codes "info"
Asks name rows (Get numbers) = (name ≡ codes "get") × (texts : List Text) × (all_of (codes "N") rows ≡ Some texts)
    × Write texts numbers.items

-- these matches name these files
pub record AreNames (rows : List Row) (names : Names) : Type 0 where
  pub input : option_map (λ name. name.now) names.input ≡ first_of (codes "input") rows
  pub output : option_map (λ name. name.now) names.output ≡ first_of (codes "output") rows

-- a subcommand was asked for, with these matches, and this is what it asks for
abbrev pub IsTaskOf : Option (Text × List Row) → Task → Type 0
IsTaskOf asked task = IsSomeAnd asked (λ asked. Asks asked.0 asked.1 task.request × AreNames asked.1 task.names)

-- the words have the form of a command, by the rules of clap, and ask for this
pub record AskFor (words : List Text) (task : Task) : Type 0 where
  pub form : fault_of all_commands words ≡ []
  pub asked : IsTaskOf (subcommand_of all_commands words) task
