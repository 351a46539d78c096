-- Single values of a column.
use Rattle.std.specs.Prelude.{◌≡◌, ℕ, ◌+◌, ◌-◌, ◌<◌, ◌≤◌, Bool, List, length, slice_index}
use Rattle.fastlanes_pages.specs.Values.{HoldsPage}
use Rattle.fastlanes_streams.specs.Stream.{Source}
use Rattle.fastlanes_column_streams.specs.Pages.{GivesPages, GivesRest}

-- behind so many values stand these: where one of them has this number, it is found, and else what was there before stays
pub record Picks (before : ℕ) (values : List ℕ) (number old new : ℕ) : Type 0 where
  pub below : number < before → new ≡ old
  pub inside : before ≤ number → number < before + length values → new ≡ slice_index values (number - before)
  pub above : before + length values ≤ number → new ≡ old

-- the same for each of the numbers
abbrev pub PicksEach : ℕ → List ℕ → List ℕ → List ℕ → List ℕ → Type 0
PicksEach before values numbers old new =
    (k : ℕ) → k < length numbers → Picks before values (slice_index numbers k) (slice_index old k) (slice_index new k)

-- a page has values, and those of these numbers are found
pub record PicksPage (t lanes : ℕ) (checked : Bool) (before : ℕ) (page numbers old new : List ℕ) : Type 0 where
  pub values : List ℕ
  pub holds : HoldsPage t lanes checked page values
  pub picks : PicksEach before values numbers old new

-- the values of the numbers that are below a count are found
abbrev pub AreFound : ℕ → List ℕ → List ℕ → List ℕ → Type 0
AreFound count values numbers found =
    (k : ℕ) → k < length numbers → slice_index numbers k < count → slice_index found k ≡ slice_index values (slice_index numbers k)

-- the source gave pages, and those of their values that have these numbers are found
pub record FindsPages (t lanes : ℕ) (checked : Bool) (count : ℕ) (from from' : Source) (numbers found : List ℕ) : Type 0 where
  pub values : List ℕ
  pub pages : GivesPages t lanes checked count from from' values
  pub are_found : AreFound count values numbers found

-- the source gave what follows the head of a column of so many values, and came to its end, and those of these numbers are found
pub record Finds (t lanes : ℕ) (checked : Bool) (count : ℕ) (from from' : Source) (numbers found : List ℕ) : Type 0 where
  pub values : List ℕ
  pub rest : GivesRest t lanes checked count from from' values
  pub are_found : AreFound count values numbers found
