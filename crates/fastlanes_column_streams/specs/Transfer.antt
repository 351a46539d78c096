-- What is read of a column at a time.
use Rattle.std.specs.Prelude.{◌≡◌, ℕ, Bool, List, [], take}
use Rattle.fastlanes_format.specs.Format.{BeginsWithPage, IsColumnHead, IsEnd}
use Rattle.fastlanes_format.specs.declared.pages.Next.{Next}
use Rattle.fastlanes_format.specs.declared.pages.Next.TheVariants.{End, Page}
use Rattle.fastlanes_streams.specs.Stream.{Source, Gives}

-- the source gave the head of a column
pub record GivesHead (bits : ℕ) (checked : Bool) (from from' : Source) : Type 0 where
  pub head : List ℕ
  pub gives : Gives from head from'
  pub is : IsColumnHead bits checked head

-- what was found is the end of a column of so many values, or a page, which stands at the start of the buffer
abbrev pub IsFound : ℕ → Bool → ℕ → List ℕ → Next → Type 0
IsFound bits checked before buffer (End all) = all ≡ before
IsFound bits checked before buffer (Page len values) = BeginsWithPage bits checked before buffer len values

-- the source gave the end of a column of so many values, and came to its own end
pub record GivesEnd (checked : Bool) (before : ℕ) (from from' : Source) : Type 0 where
  pub end : List ℕ
  pub gives : Gives from end from'
  pub is : IsEnd checked before end
  pub ended : from'.left ≡ []

-- the source gave what was found, and no more
abbrev pub GivesFound : Bool → ℕ → Source → List ℕ → Source → Next → Type 0
GivesFound checked before from buffer from' (End all) = GivesEnd checked before from from'
GivesFound checked before from buffer from' (Page len values) = Gives from (take len buffer) from'
