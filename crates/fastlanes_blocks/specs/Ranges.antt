-- The least and the greatest of digits.
use Rattle.std.specs.Prelude.{◌≡◌, ◌⊎◌, ℕ, ◌-◌, ◌^◌, ◌<◌, ◌≤◌, List, ◌∷◌, map}
use Rattle.std.specs.List.{All, Contains}

-- x is one of these numbers, and none is less
pub record IsLeast (x : ℕ) (numbers : List ℕ) : Type 0 where
  pub one : Contains numbers x
  pub least : All (λ y. x ≤ y) numbers

-- x is one of these numbers, and none is greater
pub record IsGreatest (x : ℕ) (numbers : List ℕ) : Type 0 where
  pub one : Contains numbers x
  pub greatest : All (λ y. y ≤ x) numbers

-- what one of n lanes has comes before x
abbrev pub AfterLane : (ℕ → ℕ → Type 0) → ℕ → (ℕ → ℕ) → ℕ → Type 0
AfterLane Before n at x = (j : ℕ) × (j < n) × Before (at j) x

-- each of n lanes has the number `start` or one of these, each of which comes after that of a lane
pub record HoldsFirst (Before : ℕ → ℕ → Type 0) (start n : ℕ) (at : ℕ → ℕ) (numbers : List ℕ) : Type 0 where
  pub ones : (j : ℕ) → j < n → Contains (start ∷ numbers) (at j)
  pub first : All (AfterLane Before n at) numbers

-- of two numbers it is one, and it comes before both
abbrev pub IsFirst : (ℕ → ℕ → Type 0) → ℕ → ℕ → ℕ → Type 0
IsFirst Before a b x = ((x ≡ a) ⊎ (x ≡ b)) × Before x a × Before x b

-- x is what one of n lanes has, and it comes before what each of them has
pub record IsFirstOf (Before : ℕ → ℕ → Type 0) (n : ℕ) (at : ℕ → ℕ) (x : ℕ) : Type 0 where
  pub one : (j : ℕ) × (j < n) × (x ≡ at j)
  pub before : (j : ℕ) → j < n → Before x (at j)

-- of the numbers that were taken, n lanes have the least, or 2 ^ t - 1
abbrev pub HasLeast : ℕ → ℕ → (ℕ → ℕ) → List (ℕ × ℕ) → Type 0
HasLeast t n at taken = HoldsFirst (λ x y. x ≤ y) (2 ^ t - 1) n at (map (λ a. a.1) taken)

-- of the numbers that were taken, n lanes have the greatest, or 0
abbrev pub HasGreatest : ℕ → (ℕ → ℕ) → List (ℕ × ℕ) → Type 0
HasGreatest n at taken = HoldsFirst (λ x y. y ≤ x) 0 n at (map (λ a. a.1) taken)
