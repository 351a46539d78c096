-- How far a run came that stopped.
use Rattle.std.proofs.Common.{◌≡◌, ℕ, ◌++◌, ◌∙◌, Bool, Err, Ok, Result, [], ap, append-nil, refl, subst, sym, take}
use Rattle.std.specs.Prelude.{IfErr, OnOk}
use Rattle.std.proofs.Math.Seq.{take-append_seam}
use Rattle.fastlanes_column_streams.specs.Transfer.{GivesHead}
use Rattle.fastlanes_format.specs.Format.{IsColumnHead}
use Rattle.fastlanes_streams.proofs.Moves.{Gives-append}
use Rattle.fastlanes_streams.specs.Stream.{Sink, Source}
use Rattle.flcolumn.specs.Stops.{GivesFromHead, GivesSome, StopsWhereMemory}
use Rattle.flcolumn.specs.declared.failure.Failure.{Failure}
use Rattle.flcolumn.specs.declared.failure.Failure.TheVariants.{NoInput, NoMemory, NoOutput, NoSuchValue, SameFile, Stream, Words}

-- a head and what follows it
pub from_head : (bits : ℕ) (checked : Bool) {from between from' : Source} → GivesHead bits checked from between → GivesSome between from'
    → GivesFromHead from from'
from_head bits checked first some =
    let whole : take 8 (first.head ++ some.0) ≡ first.head = ap (λ n. take n (first.head ++ some.0)) (sym first.is.whole) ∙ take-append_seam first.head some.0 in
    record {
      bits = bits;
      checked = checked;
      bytes = first.head ++ some.0;
      gives = Gives-append first.gives some.1;
      begins = subst (IsColumnHead bits checked) (sym whole) first.is;
    }

-- a source gives no bytes where it stays
pub gives_none : (from : Source) → GivesSome from from
gives_none from = ([], record { given = sym (append-nil from.given); left = refl })

-- a head alone
pub from_head_alone : (bits : ℕ) (checked : Bool) {from between : Source} (from' : Source) → GivesHead bits checked from between → from' ≡ between
    → GivesFromHead from from'
from_head_alone bits checked {between = between} from' first same = from_head bits checked first (subst (GivesSome between) (sym same) (gives_none between))

-- where memory runs out, less is said
weaker : (failure : Failure) {P Q : Type 0} → (P → Q) → StopsWhereMemory P failure → StopsWhereMemory Q failure
weaker (Stream error) step h = tt
weaker NoMemory step h = step h
weaker (Words error) step h = absurd h
weaker (NoSuchValue number count) step h = absurd h
weaker (NoInput name error) step h = absurd h
weaker (NoOutput name error) step h = absurd h
weaker (SameFile name) step h = absurd h

pub stops_weaker : {T : Type 0} (r : Result T Failure) {P Q : Type 0} → (P → Q) → IfErr r (StopsWhereMemory P) → IfErr r (StopsWhereMemory Q)
stops_weaker (Ok x) step h = tt
stops_weaker (Err failure) step h = weaker failure step h

-- behind a head, memory runs out before anything more is read or written
pub stops_behind_head : {T : Type 0} (r : Result T Failure) (bits : ℕ) (checked : Bool) {from between : Source} (from' : Source) (to to' : Sink)
    → GivesHead bits checked from between → IfErr r (StopsWhereMemory ((from' ≡ between) × (to' ≡ to)))
    → IfErr r (StopsWhereMemory (GivesFromHead from from' × (to' ≡ to)))
stops_behind_head r bits checked from' to to' first = stops_weaker r (λ (same, kept). (from_head_alone bits checked from' first same, kept))

-- a source gives bytes, and then more
pub gives_more : {from between from' : Source} → GivesSome from between → GivesSome between from' → GivesSome from from'
gives_more one other = (one.0 ++ other.0, Gives-append one.1 other.1)

-- where what follows a head succeeds
pub from_head_ok : {T : Type 0} (r : Result T Failure) (bits : ℕ) (checked : Bool) {from between : Source} (from' : Source) → GivesHead bits checked from between
    → OnOk r (GivesSome between from') → OnOk r (GivesFromHead from from')
from_head_ok (Ok x) bits checked from' first some = from_head bits checked first some
from_head_ok (Err failure) bits checked from' first some = tt
