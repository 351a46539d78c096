-- Why the values of numbers are not found.
use Rattle.std.proofs.Common.{◌≡◌, ℕ, Bool, Err, List, Ok, Result, subst, sym}
use Rattle.std.specs.Prelude.{IfErr}
use Rattle.fastlanes_column_streams.specs.Single.{Finds}
use Rattle.fastlanes_column_streams.specs.Transfer.{GivesHead}
use Rattle.fastlanes_streams.specs.Stream.{Source}
use Rattle.flcolumn.proofs.HeadAndRest.{column_given}
use Rattle.flcolumn.proofs.Stopped.{from_head_alone}
use Rattle.flcolumn.specs.Columns.{IsFirstMissing}
use Rattle.flcolumn.specs.Elements.{lanes_of}
use Rattle.flcolumn.specs.Stops.{StopsFinding, StopsFindingRest}
use Rattle.flcolumn.specs.declared.failure.Failure.{Failure}
use Rattle.flcolumn.specs.declared.failure.Failure.TheVariants.{NoInput, NoMemory, NoOutput, NoSuchValue, SameFile, Stream, Words}

-- a number has no value behind a head
pub lacks_rest : (t lanes : ℕ) (checked : Bool) (all : ℕ) (numbers found : List ℕ) {from from' : Source} (failure : Failure)
    → Finds t lanes checked all from from' numbers found
    → ((number : ℕ) × (failure ≡ NoSuchValue number all) × IsFirstMissing all numbers number)
    → StopsFindingRest t lanes checked numbers from from' failure
lacks_rest t lanes checked all numbers found {from = from} {from' = from'} failure finds (number, is, first) =
    subst (StopsFindingRest t lanes checked numbers from from') (sym is) (record { values = finds.values; rest = finds.rest; first = first })

-- what stops behind a head stops for the whole column
behind : (failure : Failure) (t : ℕ) (checked : Bool) (numbers : List ℕ) {from between : Source} (from' : Source) → GivesHead t checked from between
    → StopsFindingRest t (lanes_of t) checked numbers between from' failure → StopsFinding numbers from from' failure
behind (NoSuchValue number count) t checked numbers from' first h = record {
  bits = t;
  values = h.values;
  many = h.rest.many;
  gives = column_given t checked count first h.rest;
  first = h.first;
}
behind (Stream error) t checked numbers from' first h = tt
behind NoMemory t checked numbers from' first h = from_head_alone t checked from' first h
behind (Words error) t checked numbers from' first h = absurd h
behind (NoInput name error) t checked numbers from' first h = absurd h
behind (NoOutput name error) t checked numbers from' first h = absurd h
behind (SameFile name) t checked numbers from' first h = absurd h

pub stops_finding : {T : Type 0} (r : Result T Failure) (t : ℕ) (checked : Bool) (numbers : List ℕ) {from between : Source} (from' : Source)
    → GivesHead t checked from between → IfErr r (StopsFindingRest t (lanes_of t) checked numbers between from')
    → IfErr r (StopsFinding numbers from from')
stops_finding (Ok x) t checked numbers from' first h = tt
stops_finding (Err failure) t checked numbers from' first h = behind failure t checked numbers from' first h
