-- The least of numbers, and the least width that holds them.
use Rattle.std.specs.Prelude.{ℕ, ◌-◌, ◌^◌, ◌<◌, ◌≤◌, ◌↔◌, All, Contains, List}
use Rattle.fastlanes.specs.Frame.{framed}

-- x is one of the numbers, and none of them is less
pub record IsLeastOf (x : ℕ) (numbers : List ℕ) : Type 0 where
  pub one : Contains numbers x
  pub least : All (λ y. x ≤ y) numbers

-- x is one of the numbers, and none of them is greater
pub record IsGreatestOf (x : ℕ) (numbers : List ℕ) : Type 0 where
  pub one : Contains numbers x
  pub greatest : All (λ y. y ≤ x) numbers

-- w is the smallest width that holds the numbers: each of them is below 2 ^ w, and at no smaller width
pub record IsLeastWidth (w : ℕ) (numbers : List ℕ) : Type 0 where
  pub holds : All (λ x. x < 2 ^ w) numbers
  pub least : (other : ℕ) → All (λ x. x < 2 ^ other) numbers → w ≤ other

-- no number is less than the reference, and none is 2 ^ w or more above it
pub record LieAbove (reference w : ℕ) (numbers : List ℕ) : Type 0 where
  pub above : All (λ x. reference ≤ x) numbers
  pub near : All (λ x. x - reference < 2 ^ w) numbers

-- the numbers lie so above the reference, and above no other reference at a smaller width
pub record IsNarrowestHead (reference w : ℕ) (numbers : List ℕ) : Type 0 where
  pub holds : LieAbove reference w numbers
  pub narrowest : (other_reference other : ℕ) → LieAbove other_reference other numbers → w ≤ other

-- x has a bit where one of the numbers has: it is below 2 ^ w exactly where each of them is
abbrev pub IsAsWide : ℕ → List ℕ → Type 0
IsAsWide x numbers = (w : ℕ) → (x < 2 ^ w) ↔ All (λ y. y < 2 ^ w) numbers

-- the reference is the least of the numbers, which are below 2 ^ t, and w the smallest width that holds their differences from it
pub record HasHead (t reference w : ℕ) (numbers : List ℕ) : Type 0 where
  pub words : All (λ x. x < 2 ^ t) numbers
  pub least : IsLeastOf reference numbers
  pub width : IsLeastWidth w (framed t reference numbers)
  pub fits : w ≤ t
