-- Walks of a kernel, which is called once for each of a list of arguments, in order. `pre s x` says that the kernel's
-- contract allows the call at x in the state s, and `step s x r t` that this call may answer r and leave the state t.
use Rattle.std.specs.Prelude.{◌≡◌, ℕ, ◌%◌, ◌^◌, ◌<◌, List, [], ◌∷◌, map, slice_index}
use Rattle.std.specs.List.{FoldsTo, range_with_len}
use Rattle.fastlanes_base.specs.Order.{place}
use Rattle.fastlanes_base.specs.Digits.{digit, lane_number, number_in_base}

-- the call at x is allowed in the state s, and may leave the state t
abbrev pub Leaves : {S A R : Type 0} → (S → A → Type 0) → (S → A → R → S → Type 0) → S → A → S → Type 0
Leaves {R = R} pre step s x t = pre s x × (r : R) × step s x r t

-- a walk over the arguments xs, one call for each, takes the kernel from the state s to t
abbrev pub Walks : {S A R : Type 0} → (S → A → Type 0) → (S → A → R → S → Type 0) → S → List A → S → Type 0
Walks pre step s xs t = FoldsTo (Leaves pre step) s xs t

-- the same, where rs are the answers of the calls
abbrev pub WalksWith : {S A R : Type 0} → (S → A → Type 0) → (S → A → R → S → Type 0) → S → List A → List R → S → Type 0
WalksWith pre step s [] [] t = s ≡ t
WalksWith pre step s [] (r ∷ rs) t = ⊥
WalksWith pre step s (x ∷ xs) [] t = ⊥
WalksWith {S} pre step s (x ∷ xs) (r ∷ rs) t = pre s x × (u : S) × step s x r u × WalksWith pre step u xs rs t

-- what a function gives for the numbers below n, in order
abbrev pub each_below : {A : Type 0} → (ℕ → A) → ℕ → List A
each_below argument n = map argument (range_with_len 0 n)

-- the kernel may walk over n arguments from the state s: each call is allowed in every state that a walk over the
-- arguments before it can end in
pub record MayWalk {S A R : Type 0} (pre : S → A → Type 0) (step : S → A → R → S → Type 0) (s : S) (argument : ℕ → A) (n : ℕ) : Type 0 where
  pub at : (k : ℕ) (t : S) → k < n → Walks pre step s (each_below argument k) t → pre t (argument k)

-- the place of a row of a lane
abbrev pub lane_place : ℕ → ℕ → ℕ
lane_place lane row = place row lane

-- the places of the first n rows of a lane, in order
abbrev pub places : ℕ → ℕ → List ℕ
places n lane = each_below (lane_place lane) n

-- the place of a row of a lane, and the digit there
abbrev pub lane_digit : ℕ → ℕ → ℕ → List ℕ → ℕ → ℕ → ℕ × ℕ
lane_digit t lanes w p lane row = (place row lane, digit t lanes w p (place row lane))

-- the places of a lane, each with the digit there
abbrev pub lane_digits : ℕ → ℕ → ℕ → List ℕ → ℕ → List (ℕ × ℕ)
lane_digits t lanes w p lane = each_below (lane_digit t lanes w p lane) t

-- for a kernel of a place and a word: the call at a place and a digit is the one with the word of that number
abbrev pub AllowsDigit : {S E : Type 0} → (E → ℕ) → (S → ℕ → E → Type 0) → S → ℕ × ℕ → Type 0
AllowsDigit {E = E} number pre s a = (x : E) → number x ≡ a.1 → pre s a.0 x

abbrev pub TakesDigit : {S E R : Type 0} → (E → ℕ) → (S → ℕ → E → R → S → Type 0) → S → ℕ × ℕ → R → S → Type 0
TakesDigit {E = E} number step s a r t = (x : E) × (number x ≡ a.1) × step s a.0 x r t

-- a kernel of a place and a word may walk over a lane's digits
abbrev pub MayWalkDigits : {S E R : Type 0} → (E → ℕ) → (S → ℕ → E → Type 0) → (S → ℕ → E → R → S → Type 0) → S → ℕ → ℕ → ℕ → List ℕ → ℕ → Type 0
MayWalkDigits number pre step s t lanes w p lane = MayWalk (AllowsDigit number pre) (TakesDigit number step) s (lane_digit t lanes w p lane) t

-- its walk over a lane's digits takes the kernel from the state s to u
abbrev pub WalksDigits : {S E R : Type 0} → (E → ℕ) → (S → ℕ → E → Type 0) → (S → ℕ → E → R → S → Type 0) → S → ℕ → ℕ → ℕ → List ℕ → ℕ → S → Type 0
WalksDigits number pre step s t lanes w p lane u = Walks (AllowsDigit number pre) (TakesDigit number step) s (lane_digits t lanes w p lane) u

-- a walk over a lane's places takes the kernel from the state s to u, and the lane's words, as one number, are its
-- answers modulo 2 ^ w, as one number
pub record PacksAnswers {S E : Type 0} (number : E → ℕ) (pre : S → ℕ → Type 0) (step : S → ℕ → E → S → Type 0) (s : S) (t lanes w lane : ℕ) (p : List ℕ) (u : S) : Type 0 where
  pub answers : List E
  pub walk : WalksWith pre step s (places t lane) answers u
  pub packed : lane_number t lanes w lane p ≡ number_in_base w (λ row. slice_index (map number answers) row % 2 ^ w) t
