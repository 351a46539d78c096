-- The words of a command: a verb, a type and a width.
use Rattle.std.specs.Prelude.{◌≡◌, ℕ, ◌<◌, ◌≤◌, List, [], ◌∷◌, length, All, codes, Result, Ok, Err}
use Rattle.std.specs.Char.{IsAsciiDigit}
use Rattle.std.specs.Str.Parse.{digits_value}
use Rattle.flblock.specs.declared.command.Command.{Command}
use Rattle.flblock.specs.declared.command.ElementType.{ElementType}
use Rattle.flblock.specs.declared.command.Verb.{Verb}
use Rattle.flblock.specs.declared.error.BlockError.{BlockError}
use Rattle.flblock.specs.declared.error.BlockError.TheVariants.{Usage, Width}
use Rattle.flblock.specs.Element.{bits_of, element_word}
use Rattle.flblock.specs.Verb.{verb_word}

-- one to nine decimal digits
pub record IsDecimal (digits : List ℕ) : Type 0 where
  pub some : 0 < length digits
  pub few : length digits ≤ 9
  pub digits_only : All IsAsciiDigit digits

-- the number that they write
abbrev pub decimal_value : List ℕ → ℕ
decimal_value digits = digits_value 10 digits

-- no words at all mean `ramp u16 4`
abbrev pub meant_words : List (List ℕ) → List (List ℕ)
meant_words [] = codes "ramp" ∷ codes "u16" ∷ codes "4" ∷ []
meant_words (word ∷ rest) = word ∷ rest

-- the words are a verb's, a type's and the digits of a width
pub record HasForm (words : List (List ℕ)) (verb : Verb) (element : ElementType) (digits : List ℕ) : Type 0 where
  pub in_order : meant_words words ≡ verb_word verb ∷ element_word element ∷ digits ∷ []
  pub decimal : IsDecimal digits

-- the words have the form of a command
abbrev pub IsCommandForm : List (List ℕ) → Type 0
IsCommandForm words = (verb : Verb) × (element : ElementType) × (digits : List ℕ) × HasForm words verb element digits

-- they do, with a width of more bits than the type has
abbrev pub IsTooWide : List (List ℕ) → Type 0
IsTooWide words = (verb : Verb) × (element : ElementType) × (digits : List ℕ)
    × HasForm words verb element digits × (bits_of element < decimal_value digits)

-- the words name the command
abbrev pub Names : List (List ℕ) → Command → Type 0
Names words c = (digits : List ℕ) × HasForm words c.verb c.element digits × (c.width ≡ decimal_value digits)

-- what is answered of the words
abbrev pub IsToldOf : List (List ℕ) → Result Command BlockError → Type 0
IsToldOf words (Ok c) = Names words c
IsToldOf words (Err Usage) = ¬ (IsCommandForm words)
IsToldOf words (Err Width) = IsTooWide words
IsToldOf words (Err _) = ⊥
