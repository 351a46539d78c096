-- What bytes of a column begin with.
use Rattle.std.specs.Prelude.{◌≡◌, ℕ, Bool, List}
use Rattle.fastlanes_format.specs.declared.pages.Next.{Next}
use Rattle.fastlanes_format.specs.declared.pages.Next.TheVariants.{End, Page}
use Rattle.fastlanes_format.specs.Format.{BeginsWithPage, IsEnd}

-- behind pages of so many values, the bytes are the end, or begin with a page
abbrev pub IsNext : ℕ → Bool → ℕ → List ℕ → Next → Type 0
IsNext bits checked before bytes (End values) = IsEnd checked before bytes × (values ≡ before)
IsNext bits checked before bytes (Page len values) = BeginsWithPage bits checked before bytes len values
