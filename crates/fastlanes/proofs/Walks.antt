-- Lemmas on the walk of a kernel that counts, counts down or adds up, for who proves code on this crate. Each call keeps a
-- fact on the state and a value b. docs/PROVING.md has a sentence and a caller for each.
use Rattle.std.proofs.Common.{◌≡◌, ◌≤◌, ◌<◌, ℕ, ◌+◌, ◌%◌, ◌^◌, Bool, List, ◌++◌, [], ◌∷◌, cond, count_by, sum_by, length, arith, ap, sym, ◌∙◌}
use Rattle.std.proofs.Math.Nat.{mod-add-mod, mod-eq_of_lt}
use Rattle.std.proofs.lemmas.Fn.{chained_keeps}
use Rattle.std.proofs.lemmas.List.Folds.{fold-map}
use Rattle.std.proofs.lemmas.List.{length-append}
use Rattle.std.proofs.lemmas.List.FromFn.{length-map-range_with_len}
use Rattle.std.proofs.lemmas.List.Sums.{count_by-le-length, sum_by_push}
use Rattle.std.specs.List.{FoldsTo, range_with_len}
use Rattle.fastlanes_base.specs.Digits.{digit}
use Rattle.fastlanes_packing.specs.Kernels.{each_below, lane_digit, lane_digits, lane_place, places}

-- a kernel that counts the arguments which pass a test ends with as many more
pub counted : {S A B : Type 0} (step : S → A → S → Type 0) (keeps : B → S → Type 0) (b : B) (count : S → ℕ) (test : A → Bool)
    → ((s t : S) (x : A) → keeps b s → step s x t → keeps b t × (count t ≡ count s + cond (test x) 1 0))
    → (s t : S) (xs : List A) → keeps b s → FoldsTo step s xs t → keeps b t × (count t ≡ count s + count_by test xs)
counted step keeps b count test adds s t xs start run =
    chained_keeps step (λ ys u. keeps b u × (count u ≡ count s + count_by test ys))
    (λ ys u x v so_far taken.
    let more = adds u v x so_far.0 taken in
    let both : count_by test (ys ++ x ∷ []) ≡ count_by test ys + cond (test x) 1 0 = sum_by_push (λ y. cond (test y) 1 0) ys x in
    (more.0, omega (arith, both, more.1, so_far.1))) xs s t (start, omega arith) run

-- a kernel that adds up words of t bits ends with the sum, modulo 2 ^ t
pub summed : {S A B : Type 0} (step : S → A → S → Type 0) (keeps : B → S → Type 0) (b : B) (sum : S → ℕ) (value : A → ℕ) (t : ℕ)
    → ((s u : S) (x : A) → keeps b s → step s x u → keeps b u × (sum u ≡ (sum s + value x) % 2 ^ t))
    → (s u : S) (xs : List A) → keeps b s → sum s < 2 ^ t → FoldsTo step s xs u → keeps b u × (sum u ≡ (sum s + sum_by value xs) % 2 ^ t)
summed step keeps b sum value t adds s u xs start below run =
    let none : sum s + 0 ≡ sum s = omega arith in
    chained_keeps step (λ ys v. keeps b v × (sum v ≡ (sum s + sum_by value ys) % 2 ^ t))
    (λ ys v x w so_far taken.
    let more = adds v w x so_far.0 taken in
    let all : sum s + sum_by value ys + value x ≡ sum s + sum_by value (ys ++ x ∷ []) = omega (arith, sum_by_push value ys x) in (
      more.0,
      more.1
          ∙ ap (λ n. (n + value x) % 2 ^ t) so_far.1
          ∙ mod-add-mod (sum s + sum_by value ys) (2 ^ t) (value x)
          ∙ ap (λ n. n % 2 ^ t) all,
    )) xs s u (start, sym (ap (λ n. n % 2 ^ t) none ∙ mod-eq_of_lt below)) run

-- a kernel that counts down ends with as many less as there are arguments
pub counted_down : {S A B : Type 0} (step : S → A → S → Type 0) (keeps : B → S → Type 0) (b : B) (left : S → ℕ)
    → ((s t : S) (x : A) → keeps b s → step s x t → keeps b t × (left t + 1 ≡ left s))
    → (s t : S) (xs : List A) → keeps b s → FoldsTo step s xs t → keeps b t × (left t + length xs ≡ left s)
counted_down step keeps b left falls s t xs start run =
    chained_keeps step (λ ys u. keeps b u × (left u + length ys ≡ left s))
    (λ ys u x v so_far taken.
    let less = falls u v x so_far.0 taken in
    (less.0, omega (arith, less.1, so_far.1, length-append ys (x ∷ [])))) xs s t (start, omega arith) run

-- it has none left where it had one for each
pub counted_out : {S A B : Type 0} (step : S → A → S → Type 0) (keeps : B → S → Type 0) (b : B) (left : S → ℕ)
    → ((s t : S) (x : A) → keeps b s → step s x t → keeps b t × (left t + 1 ≡ left s))
    → (s t : S) (argument : ℕ → A) (n : ℕ) → keeps b s → left s ≡ n → FoldsTo step s (each_below argument n) t → keeps b t × (left t ≡ 0)
counted_out step keeps b left falls s t argument n start all run =
    let counts = counted_down step keeps b left falls s t (each_below argument n) start run in
    (counts.0, omega (arith, counts.1, all, length-map-range_with_len argument 0 n))

-- no more are counted than there are arguments
pub count_each_below : {A : Type 0} (test : A → Bool) (argument : ℕ → A) (n : ℕ) → count_by test (each_below argument n) ≤ n
count_each_below test argument n = omega (arith, count_by-le-length test (each_below argument n), length-map-range_with_len argument 0 n)

-- the sum of what the digits of a walk give is that of what those at the lane's places give
pub sum_lane_digits : (value : ℕ → ℕ) (t lanes w : ℕ) (p : List ℕ) (lane : ℕ)
    → sum_by (λ (a : ℕ × ℕ). value a.1) (lane_digits t lanes w p lane) ≡ sum_by (λ i. value (digit t lanes w p i)) (places t lane)
sum_lane_digits value t lanes w p lane =
    fold-map (λ n (a : ℕ × ℕ). n + value a.1) (lane_digit t lanes w p lane) 0 (range_with_len 0 t)
    ∙ sym (fold-map (λ n i. n + value (digit t lanes w p i)) (lane_place lane) 0 (range_with_len 0 t))

-- as many digits of a walk pass a test as of those at the lane's places
pub count_lane_digits : (test : ℕ → Bool) (t lanes w : ℕ) (p : List ℕ) (lane : ℕ)
    → count_by (λ (a : ℕ × ℕ). test a.1) (lane_digits t lanes w p lane) ≡ count_by (λ i. test (digit t lanes w p i)) (places t lane)
count_lane_digits test t lanes w p lane = sum_lane_digits (λ x. cond (test x) 1 0) t lanes w p lane
