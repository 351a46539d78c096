-- Columns that are read.
use Rattle.std.specs.Prelude.{◌≡◌, ℕ, ◌<◌, ◌≤◌, All, Bool, List, [], length, slice_index, take}
use Rattle.fastlanes_bytes.specs.Bytes.{bytes_of}
use Rattle.fastlanes_column_streams.specs.Single.{AreFound, Finds}
use Rattle.fastlanes_pages.specs.Values.{HoldsColumn}
use Rattle.fastlanes_streams.specs.Stream.{Delivers, Gives, Sink, Source}
use Rattle.flcolumn.specs.Elements.{lanes_of}

-- the source gave a column of these values and came to its end
pub record GivesColumn (bits : ℕ) (from from' : Source) (values : List ℕ) : Type 0 where
  pub column : List ℕ
  pub gives : Gives from column from'
  pub ended : from'.left ≡ []
  pub holds : HoldsColumn bits (lanes_of bits) column values

-- the source gave a column and came to its end, and the sink took the bytes of its values and was flushed
pub record DecodesColumn (from from' : Source) (to to' : Sink) : Type 0 where
  pub bits : ℕ
  pub values : List ℕ
  pub gives : GivesColumn bits from from' values
  pub delivers : Delivers to (bytes_of bits values) to'

-- the source gave what follows the head of a column and came to its end, and the values of the numbers are found, each of which is
-- below how many values there are
pub record FindsRest (t lanes : ℕ) (checked : Bool) (from from' : Source) (numbers found : List ℕ) : Type 0 where
  pub count : ℕ
  pub finds : Finds t lanes checked count from from' numbers found
  pub below : All (λ number. number < count) numbers

-- the source gave a column and came to its end, and the values of the numbers are found, each of which is below how many values there
-- are
pub record FindsColumn (from from' : Source) (numbers found : List ℕ) : Type 0 where
  pub bits : ℕ
  pub values : List ℕ
  pub count : ℕ
  pub gives : GivesColumn bits from from' values
  pub are_found : AreFound count values numbers found
  pub below : All (λ number. number < count) numbers

-- of a column of so many values, this is the first of the numbers that no value has
pub record IsFirstMissing (count : ℕ) (numbers : List ℕ) (number : ℕ) : Type 0 where
  pub place : ℕ
  pub inside : place < length numbers
  pub is : slice_index numbers place ≡ number
  pub missing : count ≤ number
  pub before : All (λ other. other < count) (take place numbers)
