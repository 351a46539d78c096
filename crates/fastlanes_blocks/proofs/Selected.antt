-- The lesser and the greater of two numbers in each lane, as vectors select them.
use Rattle.std.proofs.Common.{◌≡◌, ℕ, ◌<◌, List, [], ◌∷◌, length, map, Bool, cond, max, min, ap, ◌∙◌, arith, refl, true, false, ltb}
use Rattle.std.proofs.lemmas.Bool.Decides.{nat_tests}
use Rattle.std.proofs.lemmas.Simd.{get_or-sel_l, get_or-zip2, length-zip2}
use Rattle.std.specs.List.{slice_index}
use Rattle.std.specs.Simd.Lanes.{sel_l, zip2}

-- f gives one number where its first is less than its second, and another where not, and a test tells the two apart
abbrev TellsLess : (ℕ → ℕ → ℕ) → (ℕ → Bool) → Type 0
TellsLess f test = ((a b : ℕ) → f a b ≡ cond (ltb a b) (f 0 1) (f 0 0)) × (test (f 0 1) ≡ true) × (test (f 0 0) ≡ false)

-- the lesser of two numbers
lesser_of : (a b : ℕ) → cond (ltb a b) a b ≡ min a b
lesser_of a b = grind (arith, nat_tests)

-- the greater of two numbers
greater_of : (a b : ℕ) → cond (ltb a b) b a ≡ max a b
greater_of a b = grind (arith, nat_tests)

-- a test that tells two numbers apart answers which it was
tells_apart : (test : ℕ → Bool) (p q : ℕ) (b : Bool) → test p ≡ true → test q ≡ false → test (cond b p q) ≡ b
tells_apart test p q true first second = first
tells_apart test p q false first second = second

-- in each lane
tells_lanes : (f : ℕ → ℕ → ℕ) (test : ℕ → Bool) (xs ys : List ℕ) → TellsLess f test → map test (zip2 f xs ys) ≡ zip2 ltb xs ys
tells_lanes f test [] ys tells = refl
tells_lanes f test (x ∷ xs) [] tells = refl
tells_lanes f test (x ∷ xs) (y ∷ ys) tells =
    let here : test (f x y) ≡ ltb x y = ap test (tells.0 x y) ∙ tells_apart test _ _ (ltb x y) tells.1 tells.2 in
    let others = tells_lanes f test xs ys tells in
    cc

-- what is selected by it is of the one list where the first number is less, and else of the other
selected : (f : ℕ → ℕ → ℕ) (test : ℕ → Bool) (xs ys us vs : List ℕ) (j : ℕ) → TellsLess f test
    → length xs ≡ length ys → j < length xs → j < length us → j < length vs
    → slice_index (sel_l (map test (zip2 f xs ys)) us vs) j ≡ cond (ltb (slice_index xs j) (slice_index ys j)) (slice_index us j) (slice_index vs j)
selected f test xs ys us vs j tells same within in_us in_vs =
    rw (tells_lanes f test xs ys tells)
    (get_or-sel_l (zip2 ltb xs ys) us vs j 0 (omega (arith, length-zip2 ltb xs ys)) in_us in_vs
    ∙ ap (λ m. cond m (slice_index us j) (slice_index vs j)) (get_or-zip2 ltb xs ys j 0 0 false within (omega arith)))

-- the lesser of the two numbers of a lane
pub lesser_selected : (f : ℕ → ℕ → ℕ) (test : ℕ → Bool) (xs ys : List ℕ) (j : ℕ)
    → ((a b : ℕ) → f a b ≡ cond (ltb a b) (f 0 1) (f 0 0)) → test (f 0 1) ≡ true → test (f 0 0) ≡ false
    → length xs ≡ length ys → j < length xs → slice_index (sel_l (map test (zip2 f xs ys)) xs ys) j ≡ min (slice_index xs j) (slice_index ys j)
lesser_selected f test xs ys j is first second same within = selected f test xs ys xs ys j (is, first, second) same within within (omega arith) ∙ lesser_of _ _

-- the greater of the two numbers of a lane
pub greater_selected : (f : ℕ → ℕ → ℕ) (test : ℕ → Bool) (xs ys : List ℕ) (j : ℕ)
    → ((a b : ℕ) → f a b ≡ cond (ltb a b) (f 0 1) (f 0 0)) → test (f 0 1) ≡ true → test (f 0 0) ≡ false
    → length xs ≡ length ys → j < length xs → slice_index (sel_l (map test (zip2 f xs ys)) ys xs) j ≡ max (slice_index xs j) (slice_index ys j)
greater_selected f test xs ys j is first second same within = selected f test xs ys ys xs j (is, first, second) same within (omega arith) within ∙ greater_of _ _
