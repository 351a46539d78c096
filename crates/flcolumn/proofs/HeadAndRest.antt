-- The head of a column and what follows it.
use Rattle.std.proofs.Common.{◌≡◌, ◌≢◌, ℕ, ◌++◌, ◌∙◌, Bool, Err, List, Ok, Result, ap, inl, inr, drop, refl, subst, sym, take}
use Rattle.std.specs.Prelude.{IfOk, OnOk}
use Rattle.std.proofs.Math.Seq.{drop-append_seam, take-append_seam}
use Rattle.fastlanes_column_streams.specs.Failures.{writes_failed_by}
use Rattle.fastlanes_column_streams.specs.Pages.{Decodes, GivesRest}
use Rattle.fastlanes_column_streams.specs.Transfer.{GivesHead}
use Rattle.fastlanes_column_streams.specs.declared.error.StreamError.{StreamError}
use Rattle.fastlanes_column_streams.specs.declared.error.StreamError.TheVariants.{ReadFailed, Refused, ShortValue, TooMany, WriteFailed}
use Rattle.fastlanes_format.specs.Format.{IsColumnHead, IsElementSize}
use Rattle.fastlanes_pages.specs.Values.{HoldsColumn, HoldsPages}
use Rattle.fastlanes_streams.proofs.Moves.{Gives-append}
use Rattle.fastlanes_streams.specs.Stream.{Sink, Source}
use Rattle.flcolumn.specs.Columns.{DecodesColumn, FindsColumn, FindsRest, GivesColumn}
use Rattle.flcolumn.specs.Elements.{lanes_of}

-- a head and what follows it are a column
column_of : (t lanes : ℕ) (checked : Bool) (head behind values : List ℕ) (pages : List (List ℕ)) → IsColumnHead t checked head
    → HoldsPages t lanes checked 0 pages behind values → HoldsColumn t lanes (head ++ behind) values
column_of t lanes checked head behind values pages is holds =
    let begins : take 8 (head ++ behind) ≡ head = ap (λ n. take n (head ++ behind)) (sym is.whole) ∙ take-append_seam head behind in
    let follows : drop 8 (head ++ behind) ≡ behind = ap (λ n. drop n (head ++ behind)) (sym is.whole) ∙ drop-append_seam head behind in
    record {
      checked = checked;
      head = subst (IsColumnHead t checked) (sym begins) is;
      pages = pages;
      behind = subst (λ b. HoldsPages t lanes checked 0 pages b values) (sym follows) holds;
    }

-- a head and what follows it were given
pub column_given : (t : ℕ) (checked : Bool) (count : ℕ) {from between from' : Source} {values : List ℕ} → GivesHead t checked from between
    → GivesRest t (lanes_of t) checked count between from' values → GivesColumn t from from' values
column_given t checked count {values = values} first rest = record {
  column = first.head ++ rest.bytes;
  gives = Gives-append first.gives rest.gives;
  ended = rest.ended;
  holds = column_of t (lanes_of t) checked first.head rest.bytes values rest.pages first.is rest.holds;
}

-- its values are written
decodes_column : (t : ℕ) (checked : Bool) (count : ℕ) {from between from' : Source} {to to' : Sink} → GivesHead t checked from between
    → Decodes t (lanes_of t) checked count between from' to to' → DecodesColumn from from' to to'
decodes_column t checked count first decodes =
    record { bits = t; values = decodes.values; gives = column_given t checked count first decodes.rest; delivers = decodes.delivers }

-- some are found
finds_column : (t : ℕ) (checked : Bool) {from between from' : Source} (numbers found : List ℕ) → GivesHead t checked from between
    → FindsRest t (lanes_of t) checked between from' numbers found → FindsColumn from from' numbers found
finds_column t checked numbers found first all = record {
  bits = t;
  values = all.finds.values;
  count = all.count;
  gives = column_given t checked all.count first all.finds.rest;
  are_found = all.finds.are_found;
  below = all.below;
}

-- what a success says of what it answers, it says
answered : {T E : Type 0} {P : T → Type 0} {Q : Type 0} (r : Result T E) → ((x : T) → P x → Q) → IfOk r P → OnOk r Q
answered (Ok x) step holds = step x holds
answered (Err e) step holds = tt

pub decoded : {E : Type 0} (t : ℕ) (checked : Bool) (from between from' : Source) (to to' : Sink) (r : Result ℕ E) → GivesHead t checked from between
    → IfOk r (λ count. Decodes t (lanes_of t) checked count between from' to to') → OnOk r (DecodesColumn from from' to to')
decoded t checked from between from' to to' r first = answered r (λ count. decodes_column t checked count first)

-- what is so of what it answers
told : {T E : Type 0} {P Q : T → Type 0} (r : Result T E) → ((x : T) → P x → Q x) → IfOk r P → IfOk r Q
told (Ok x) step holds = step x holds
told (Err e) step holds = tt

pub found_in : {V E : Type 0} (items : V → List ℕ) (t : ℕ) (checked : Bool) (from between from' : Source) (numbers : List ℕ) (r : Result V E)
    → GivesHead t checked from between → IfOk r (λ found. FindsRest t (lanes_of t) checked between from' numbers (items found))
    → IfOk r (λ found. FindsColumn from from' numbers (items found))
found_in items t checked from between from' numbers r first = told r (λ found. finds_column t checked numbers (items found) first)

-- an error that is no failed write
pub no_write : (e : StreamError) → e ≢ WriteFailed → writes_failed_by e ≡ 0
no_write (Refused e) other = refl
no_write (ShortValue at) other = refl
no_write TooMany other = refl
no_write ReadFailed other = refl
no_write WriteFailed other = absurd (other refl)

-- the last of the element sizes
pub last_size : (bits : ℕ) → IsElementSize bits → bits ≢ 8 → bits ≢ 16 → bits ≢ 32 → bits ≡ 64
last_size bits size not_8 not_16 not_32 = elim size [
  | inl is ↦ absurd (not_8 is)
  | inr more ↦ elim more [ inl is ↦ absurd (not_16 is) | inr most ↦ elim most [ inl is ↦ absurd (not_32 is) | inr is ↦ is ] ]
]
