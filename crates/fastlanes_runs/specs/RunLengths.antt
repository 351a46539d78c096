-- The runs of a block: v is the list of its values, one a place, and eq the equality of their type.
use Rattle.std.specs.Prelude.{◌≡◌, ℕ, zero, suc, Bool, true, false, not, Option, Some, None, List, length, slice_get, if◌then◌else◌}
use Rattle.std.specs.List.{Contains, filter, range_with_len}

-- whether both values are there and equal
abbrev pub is_equal : {V : Type 0} → (V → V → Bool) → Option V → Option V → Bool
is_equal eq None b = false
is_equal eq (Some a) None = false
is_equal eq (Some a) (Some b) = eq a b

-- whether the value at the place i differs from the one at the place s
abbrev pub differs : {V : Type 0} → (V → V → Bool) → List V → ℕ → ℕ → Bool
differs eq v i s = not (is_equal eq (slice_get v i) (slice_get v s))

-- the greatest start that is at most i
unfoldable pub last_start : {V : Type 0} → (V → V → Bool) → List V → ℕ → ℕ
last_start eq v zero = 0
last_start eq v (suc i) = if differs eq v (suc i) (last_start eq v i) then suc i else last_start eq v i

-- whether the place i is a start: place 0 is one, and a place above it is one where its value differs from the value
-- at the greatest start below it
unfoldable pub is_start : {V : Type 0} → (V → V → Bool) → List V → ℕ → Bool
is_start eq v zero = true
is_start eq v (suc i) = differs eq v (suc i) (last_start eq v i)

-- the starts below i, the lowest first
unfoldable pub starts_below : {V : Type 0} → (V → V → Bool) → List V → ℕ → List ℕ
starts_below eq v i = filter (is_start eq v) (range_with_len 0 i)

-- the starts of the block
abbrev pub starts : {V : Type 0} → (V → V → Bool) → List V → List ℕ
starts eq v = starts_below eq v (length v)

-- the number of the run of the place i: how many starts the places 1 to i have
unfoldable pub run_number : {V : Type 0} → (V → V → Bool) → List V → ℕ → ℕ
run_number eq v i = length (filter (is_start eq v) (range_with_len 1 i))

-- two of these values that are equal are one value
abbrev pub IsIdentityOn : {V : Type 0} → (V → V → Bool) → List V → Type 0
IsIdentityOn {V} eq v = (a b : V) → Contains v a → Contains v b → eq a b ≡ true → a ≡ b
