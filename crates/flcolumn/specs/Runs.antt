-- What the program does when it succeeds.
use Rattle.std.specs.Prelude.{◌≡◌, ℕ, List, [], ◌∷◌, ◌++◌, length, ⊤}
use Rattle.std.specs.Fmt.{decimal}
use Rattle.std.specs.List.{flat_map}
use Rattle.fastlanes_column_streams.specs.Pages.{Encodes}
use Rattle.fastlanes_streams.specs.Stream.{Delivers, Sink, Source}
use Rattle.flcolumn.specs.Columns.{DecodesColumn, FindsColumn}
use Rattle.flcolumn.specs.Elements.{bits_of, lanes_of}
use Rattle.flcolumn_words.specs.declared.command.Request.{Request}
use Rattle.flcolumn_words.specs.declared.command.Request.TheVariants.{Encode, Decode, Info, Get}

-- a number as a line of text
abbrev pub line_of : ℕ → List ℕ
line_of number = decimal number ++ 10 ∷ []

-- numbers, a line each
abbrev pub lines_of : List ℕ → List ℕ
lines_of numbers = flat_map line_of numbers

-- the source gave a column and came to its end, and the sink took its values of these numbers as lines of text and was flushed
pub record GetsColumn (numbers : List ℕ) (from from' : Source) (to to' : Sink) : Type 0 where
  pub found : List ℕ
  pub many : length found ≡ length numbers
  pub finds : FindsColumn from from' numbers found
  pub delivers : Delivers to (lines_of found) to'

-- what was asked for is done; of the text of `info` nothing is said
abbrev pub Does : Request → Source → Source → Sink → Sink → Type 0
Does (Encode element frames_only checked) from from' to to' =
    Encodes (bits_of element) (lanes_of (bits_of element)) frames_only checked from from' to to'
Does Decode from from' to to' = DecodesColumn from from' to to'
Does Info from from' to to' = ⊤
Does (Get numbers) from from' to to' = GetsColumn numbers.items from from' to to'
