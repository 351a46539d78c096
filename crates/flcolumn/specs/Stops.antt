-- Why a run stops, and how far it came.
use Rattle.std.specs.Prelude.{◌≡◌, ℕ, ⊤, Bool, List, length, take}
use Rattle.fastlanes_column_streams.specs.Pages.{GivesRest}
use Rattle.fastlanes_format.specs.Format.{IsColumnHead}
use Rattle.fastlanes_streams.specs.Stream.{Gives, Sink, Source}
use Rattle.flcolumn.specs.Columns.{GivesColumn, IsFirstMissing}
use Rattle.flcolumn.specs.declared.failure.Failure.{Failure}
use Rattle.flcolumn.specs.declared.failure.Failure.TheVariants.{NoMemory, NoSuchValue, Stream}
use Rattle.flcolumn_words.specs.declared.command.Request.{Request}
use Rattle.flcolumn_words.specs.declared.command.Request.TheVariants.{Encode, Decode, Info, Get}

-- the source gave some bytes, or none
abbrev pub GivesSome : Source → Source → Type 0
GivesSome from from' = (bytes : List ℕ) × Gives from bytes from'

-- the source gave bytes that begin with the head of a column
pub record GivesFromHead (from from' : Source) : Type 0 where
  pub bits : ℕ
  pub checked : Bool
  pub bytes : List ℕ
  pub gives : Gives from bytes from'
  pub begins : IsColumnHead bits checked (take 8 bytes)

-- the source gave a column of so many values and came to its end, and this is the first of the numbers that no value has
pub record LacksValue (numbers : List ℕ) (number count : ℕ) (from from' : Source) : Type 0 where
  pub bits : ℕ
  pub values : List ℕ
  pub many : length values ≡ count
  pub gives : GivesColumn bits from from' values
  pub first : IsFirstMissing count numbers number

-- the same of what follows the head of a column
pub record LacksRest (t lanes : ℕ) (checked : Bool) (numbers : List ℕ) (number count : ℕ) (from from' : Source) : Type 0 where
  pub values : List ℕ
  pub rest : GivesRest t lanes checked count from from' values
  pub first : IsFirstMissing count numbers number

-- a stream stopped the run, or memory ran out where this holds
abbrev pub StopsWhereMemory : Type 0 → Failure → Type 0
StopsWhereMemory so_far (Stream error) = ⊤
StopsWhereMemory so_far NoMemory = so_far
StopsWhereMemory so_far _ = ⊥

-- why the values of the numbers are not found: memory runs out behind the head of a column
abbrev pub StopsFinding : List ℕ → Source → Source → Failure → Type 0
StopsFinding numbers from from' (NoSuchValue number count) = LacksValue numbers number count from from'
StopsFinding numbers from from' failure = StopsWhereMemory (GivesFromHead from from') failure

-- the same behind the head: memory runs out before anything is read
abbrev pub StopsFindingRest : (t lanes : ℕ) → Bool → List ℕ → Source → Source → Failure → Type 0
StopsFindingRest t lanes checked numbers from from' (NoSuchValue number count) = LacksRest t lanes checked numbers number count from from'
StopsFindingRest t lanes checked numbers from from' failure = StopsWhereMemory (from' ≡ from) failure

-- why a request is not done. Memory runs out before `encode` reads or writes, behind the head of the column that `decode`, `info` and
-- `get` read, and before `decode` and `info` write
abbrev pub Stops : Request → Source → Source → Sink → Sink → Failure → Type 0
Stops (Encode element frames_only checked) from from' to to' failure = StopsWhereMemory ((from' ≡ from) × (to' ≡ to)) failure
Stops Decode from from' to to' failure = StopsWhereMemory (GivesFromHead from from' × (to' ≡ to)) failure
Stops Info from from' to to' failure = StopsWhereMemory (GivesFromHead from from' × (to' ≡ to)) failure
Stops (Get numbers) from from' to to' failure = StopsFinding numbers.items from from' failure
