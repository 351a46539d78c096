-- When words are refused, and what the error shows.
use Rattle.std.specs.Prelude.{◌≡◌, ◌⊎◌, ⊤, All, List, [], ◌∷◌, ◌++◌, Option, None, Some, codes}
use Rattle.std.specs.String.{string_bytes}
use Rattle.clap.specs.Words.{HasKind, Row, Text, all_of, fault_of, first_of, kind_of, subcommand_of}
use Rattle.clap.specs.declared.error.kind.ErrorKind.TheVariants.{OutOfMemory}
use Rattle.flcolumn_words.specs.Commands.{all_commands}
use Rattle.flcolumn_words.specs.Requests.{IsNumber, element_word}
use Rattle.flcolumn_words.specs.declared.command.ElementType.{ElementType}
use Rattle.flcolumn_words.specs.declared.command.parse.WordsError.{WordsError}
use Rattle.flcolumn_words.specs.declared.command.parse.WordsError.TheVariants.{Element, Incomplete, NoMemory, Number, Refused}

-- memory ran out
abbrev pub IsForMemory : WordsError → Type 0
IsForMemory NoMemory = ⊤
IsForMemory (Refused error) = kind_of error ≡ OutOfMemory
IsForMemory _ = ⊥

-- nothing is asked for, or memory ran out
abbrev pub IsRefusalOf : {T : Type 0} → (T → Type 0) → WordsError → Type 0
IsRefusalOf {T} asked error = ((it : T) → ¬ (asked it)) ⊎ IsForMemory error

-- the error is that no element type has this name, or that there is no memory to show it
abbrev pub ShowsElement : Text → WordsError → Type 0
ShowsElement name (Element word) = string_bytes word ≡ name
ShowsElement name NoMemory = ⊤
ShowsElement name _ = ⊥

-- the error is that this text is no number, or that there is no memory to show it
abbrev pub ShowsNumber : Text → WordsError → Type 0
ShowsNumber text (Number word) = string_bytes word ≡ text
ShowsNumber text NoMemory = ⊤
ShowsNumber text _ = ⊥

-- this is the first of the texts that is no number
pub record IsFirstOther (texts : List Text) (text : Text) : Type 0 where
  pub before : List Text
  pub after : List Text
  pub are : texts ≡ before ++ text ∷ after
  pub numbers : All IsNumber before
  pub other : ¬ (IsNumber text)

-- the error shows the first of the texts that is no number, or there is no memory
abbrev pub ShowsFirst : List Text → WordsError → Type 0
ShowsFirst texts (Number word) = IsFirstOther texts (string_bytes word)
ShowsFirst texts NoMemory = ⊤
ShowsFirst texts _ = ⊥

-- this word is the TYPE of `encode`, and names no element type
pub record IsOtherElement (name : Text) (rows : List Row) (word : Text) : Type 0 where
  pub command : name ≡ codes "encode"
  pub is : first_of (codes "TYPE") rows ≡ Some word
  pub other : (element : ElementType) → ¬ (word ≡ element_word element)

-- this word is the first N of `get` that is no number
pub record IsOtherNumber (name : Text) (rows : List Row) (word : Text) : Type 0 where
  pub command : name ≡ codes "get"
  pub texts : List Text
  pub are : all_of (codes "N") rows ≡ Some texts
  pub first : IsFirstOther texts word

-- no command has this name
pub record IsNoCommand (name : Text) : Type 0 where
  pub encode : ¬ (name ≡ codes "encode")
  pub decode : ¬ (name ≡ codes "decode")
  pub info : ¬ (name ≡ codes "info")
  pub get : ¬ (name ≡ codes "get")

-- a subcommand of this name, with these matches, lacks what it needs
abbrev pub Lacks : Text → List Row → Type 0
Lacks name rows = ((name ≡ codes "encode") × (first_of (codes "TYPE") rows ≡ None))
    ⊎ (((name ≡ codes "get") × (all_of (codes "N") rows ≡ None)) ⊎ IsNoCommand name)

-- what the error shows of a subcommand of this name, with these matches
abbrev pub Shows : Text → List Row → WordsError → Type 0
Shows name rows (Element word) = IsOtherElement name rows (string_bytes word)
Shows name rows (Number word) = IsOtherNumber name rows (string_bytes word)
Shows name rows Incomplete = Lacks name rows
Shows name rows NoMemory = ⊤
Shows name rows _ = ⊥

-- a subcommand was asked for, with these matches, of which the error shows this; with no subcommand it shows nothing
abbrev pub ShowsOf : Option (Text × List Row) → WordsError → Type 0
ShowsOf (Some asked) error = Shows asked.0 asked.1 error
ShowsOf None Incomplete = ⊤
ShowsOf None _ = ⊥

-- which error words have: they have not the form of a command, by the rules of clap, and it is of a kind by which they have not; or they
-- have the form, and it shows what is wrong in them; or there is no memory
abbrev pub Tells : List Text → WordsError → Type 0
Tells words (Refused error) = HasKind (fault_of all_commands words) error
Tells words NoMemory = ⊤
Tells words error = (fault_of all_commands words ≡ []) × ShowsOf (subcommand_of all_commands words) error
