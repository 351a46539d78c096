-- One more call in a walk of a lane.
use Rattle.std.proofs.Common.{◌≡◌, ◌≢◌, ℕ, ◌+◌, ◌%◌, ◌<◌, ◌≤◌, List, [], ◌∷◌, ◌++◌, length, map, refl, sym, subst, add-zero, zero-add, ap, ◌∙◌, arith, inl, inr, lit<}
use Rattle.std.proofs.lemmas.Bool.{cases_lt}
use Rattle.std.proofs.lemmas.Fn.{FoldsTo-push}
use Rattle.std.proofs.lemmas.List.{get_or_append_left, get_or_push, length-map, length_push, map_push}
use Rattle.std.proofs.lemmas.List.FromFn.{map-range_with_len_more}
use Rattle.std.specs.List.{slice_index}
use Rattle.fastlanes_base.specs.Digits.{digit, row_digit}
use Rattle.fastlanes_base.specs.Element.{IsLayout}
use Rattle.fastlanes_base.specs.Order.{place}
use Rattle.fastlanes_packing.specs.Kernels.{Leaves, MayWalk, Walks, WalksWith, each_below, lane_place, places}
use Rattle.fastlanes_base.specs.Counted.{Written}
use Rattle.fastlanes_packing.specs.Steps.{IsWriting, MayGoOn, PacksRun}
use Rattle.fastlanes_rows.specs.Rows.{IsBesideLanes, PacksRow}
use Rattle.fastlanes_rows.proofs.RowsHeld.{rows_held}
use Rattle.fastlanes_rows.proofs.PackedRows.{held_same}
use Rattle.fastlanes_rows.proofs.RowDigits.{digit-place}

-- one more argument
pub each_below_more : {A : Type 0} (argument : ℕ → A) (n : ℕ) → each_below argument (n + 1) ≡ each_below argument n ++ argument n ∷ []
each_below_more argument n = map-range_with_len_more argument 0 n n (zero-add n)

-- one more call of a run
pub runs_more : {S A R : Type 0} (pre : S → A → Type 0) (step : S → A → R → S → Type 0) (s t u : S) (argument : ℕ → A) (n : ℕ) (r : R)
    → Walks pre step s (each_below argument n) t → pre t (argument n) → step t (argument n) r u → Walks pre step s (each_below argument (n + 1)) u
runs_more pre step s t u argument n r run may does = rw each_below_more (FoldsTo-push (Leaves pre step) s (each_below argument n) t (argument n) u run (may, r, does))

-- a run, without its answers
pub run_of-answers : {S A R : Type 0} (pre : S → A → Type 0) (step : S → A → R → S → Type 0) (s t : S) (xs : List A) (rs : List R)
    → WalksWith pre step s xs rs t → Walks pre step s xs t
run_of-answers pre step s t [] [] run = run
run_of-answers pre step s t [] (r ∷ rs) run = absurd run
run_of-answers pre step s t (x ∷ xs) [] run = absurd run
run_of-answers pre step s t (x ∷ xs) (r ∷ rs) run = (run.1, (run.0, r, run.2), run_of-answers pre step run.1 t xs rs run.3)

-- one more call and its answer
pub answers_more : {S A R : Type 0} (pre : S → A → Type 0) (step : S → A → R → S → Type 0) (s t u : S) (xs : List A) (rs : List R) (x : A) (r : R)
    → WalksWith pre step s xs rs t → pre t x → step t x r u → WalksWith pre step s (xs ++ x ∷ []) (rs ++ r ∷ []) u
answers_more pre step s t u [] [] x r run may does = (subst (λ v. pre v x) (sym run) may, u, subst (λ v. step v x r u) (sym run) does, refl)
answers_more pre step s t u [] (b ∷ rs) x r run may does = absurd run
answers_more pre step s t u (a ∷ xs) [] x r run may does = absurd run
answers_more pre step s t u (a ∷ xs) (b ∷ rs) x r run may does = (run.0, run.1, run.2, answers_more pre step run.1 t u xs rs x r run.3 may does)

-- the answers before one more, and that one
pub answer_before : {E : Type 0} (number : E → ℕ) (rs : List E) (r : E) → (k : ℕ) → k < length rs → slice_index (map number rs) k ≡ slice_index (map number (rs ++ r ∷ [])) k
answer_before number rs r k h =
    let b : k < length (map number rs) = rw length-map h in
    rw map_push (sym (get_or_append_left (map number rs) (number r ∷ []) 0 k b))

pub answer_at : {E : Type 0} (number : E → ℕ) (rs : List E) (r : E) → (n : ℕ) → length rs ≡ n → slice_index (map number (rs ++ r ∷ [])) n ≡ number r
answer_at number rs r n long =
    let numbers : length (map number rs) ≡ n = rw length-map long in
    rw map_push (get_or_push (map number rs) (number r) 0 n numbers)

-- with the answer of one more row
pub packs_more : {S E : Type 0} (number : E → ℕ) (pre : S → ℕ → Type 0) (step : S → ℕ → E → S → Type 0) (t lanes w lane n : ℕ) (s u v : S) (before after : Written E) (carry rest x : E)
    → 0 < t → w ≤ t → lane < lanes → IsWriting t w lane n before
    → PacksRow 1 t lanes w n number (λ j. number carry) (λ j. number x) (λ j. number rest) before after
    → pre u (place n lane) → step u (place n lane) x v
    → PacksRun number pre step t lanes w lane n s u (map number before.words) (number carry)
    → PacksRun number pre step t lanes w lane (n + 1) s v (map number after.words) (number rest)
packs_more number pre step t lanes w lane n s u v before after carry rest x some narrow in_lanes writing row may does packs =
    let answers = packs.answers ++ x ∷ [] in
    let at : ℕ → ℕ → ℕ = λ other row. slice_index (map number answers) row in
    let same : (k : ℕ) → k < n → slice_index (map number packs.answers) k ≡ slice_index (map number answers) k = λ k h. answer_before number packs.answers x k (rw packs.long h) in
    let held = held_same t lanes w lane n _ _ (map number before.words) (number carry) same packs.held in
    let more = rows_held 1 t lanes w lane n number at (λ j. number x) (λ j. number carry) (λ j. number rest) before after some narrow (omega arith) row
    record { same_width = writing.same_width; same_lane = writing.same_lane; count = writing.written; holds = λ j within. let first : lane + j ≡ lane = omega arith in rw first held }
    (λ j within. sym (answer_at number packs.answers x n packs.long)) in
    record {
      answers = answers;
      long = rw (length_push, packs.long) refl;
      run = rw (each_below_more (lane_place lane) n) (answers_more pre step s u v (places n lane) packs.answers (place n lane) x packs.run may does);
      held = rw (add-zero lane) at (more.holds 0 (lit< tt));
    }

-- a place of another lane
pub other_lane : (lanes lane k : ℕ) → k % lanes ≢ lane → IsBesideLanes 1 lane (k % lanes)
other_lane lanes lane k other = elim (cases_lt (k % lanes) lane) [
  | inl below ↦ inl below
  | inr from ↦ inr (omega (arith, other))
]

-- a kernel that may go on makes one more call
pub may_call : {S A R : Type 0} (pre : S → A → Type 0) (step : S → A → R → S → Type 0) (argument : ℕ → A) (m n : ℕ) (t : S)
    → m < n → MayGoOn pre step argument m n t → pre t (argument m)
may_call pre step argument m n t inside on = on.may.at m t inside on.walk

-- and may go on after it
pub goes_on : {S A R : Type 0} (pre : S → A → Type 0) (step : S → A → R → S → Type 0) (argument : ℕ → A) (m n : ℕ) (t u : S) (r : R)
    → m < n → MayGoOn pre step argument m n t → step t (argument m) r u → MayGoOn pre step argument (m + 1) n u
goes_on pre step argument m n t u r inside on does = record {
  start = on.start;
  may = on.may;
  walk = runs_more pre step on.start t u argument m r on.walk (may_call pre step argument m n t inside on) does;
}

-- a kernel that may walk may go on from the first call
pub may_begin : {S A R : Type 0} (pre : S → A → Type 0) (step : S → A → R → S → Type 0) (argument : ℕ → A) (n : ℕ) (t : S)
    → MayWalk pre step t argument n → MayGoOn pre step argument 0 n t
may_begin pre step argument n t may = record { start = t; may = may; walk = refl }

-- the digit of a row is the one at its place
pub digit_at_place : (t lanes w lane other row x : ℕ) (p : List ℕ) → IsLayout t lanes → row < t → lane < lanes → other ≡ lane
    → x ≡ row_digit t lanes w p other row → x ≡ digit t lanes w p (place row lane)
digit_at_place t lanes w lane other row x p layout in_rows in_lanes same is =
    is ∙ ap (λ (l : ℕ). row_digit t lanes w p l row) same ∙ sym (digit-place t lanes w lane row p layout in_rows in_lanes)
