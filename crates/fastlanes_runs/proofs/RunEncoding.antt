-- The encoding of a block, one place after another.
use Rattle.std.proofs.Common.{◌≡◌, ℕ, ◌+◌, ◌<◌, ◌≢◌, zero, suc, Bool, true, false, not, Some, List, ◌++◌, ◌∷◌, [], length, set, get_or, refl, sym, ◌∙◌, ap, inl, inr, below_more, add-one, arith, slice_get, get_or-set_same, get_or-set_other}
use Rattle.std.proofs.lemmas.Bool.{cases_lt}
use Rattle.std.proofs.lemmas.Grind.{drop_more_same}
use Rattle.std.proofs.lemmas.List.{drop-set-lt, get_or_append_left, get_or_push, length-set, length_push, set-get_or}
use Rattle.std.proofs.lemmas.Option.{get_or_from_slice_get, slice_get-get_or}
use Rattle.fastlanes_runs.specs.RunSteps.{IsEncodedTo}
use Rattle.fastlanes_runs.specs.RunLengths.{is_equal, is_start, last_start, run_number, starts_below}
use Rattle.fastlanes_runs.proofs.RunStarts.{last_start-among, last_start-at, length-starts_below, starts_below-other, starts_below-start}

pub slice_get-set_same : {V : Type 0} (xs : List V) (i : ℕ) (x : V) → i < length xs → slice_get (set xs i x) i ≡ Some x
slice_get-set_same xs i x within = slice_get-get_or (set xs i x) i x (rw length-set within) ∙ ap Some (get_or-set_same xs i x x within)

pub slice_get-set_other : {V : Type 0} (xs : List V) (i j : ℕ) (x : V) → j ≢ i → slice_get (set xs i x) j ≡ slice_get xs j
slice_get-set_other [] i j x other = refl
slice_get-set_other (y ∷ ys) zero zero x other = absurd (other refl)
slice_get-set_other (y ∷ ys) zero (suc j) x other = refl
slice_get-set_other (y ∷ ys) (suc i) zero x other = refl
slice_get-set_other (y ∷ ys) (suc i) (suc j) x other = slice_get-set_other ys i j x (λ same. other (ap suc same))

is_start-after : {V : Type 0} (eq : V → V → Bool) (v : List V) (i run : ℕ) (start : V) → length (starts_below eq v i) ≡ run + 1
    → slice_get v (get_or (starts_below eq v i) run 0) ≡ Some start → is_start eq v i ≡ not (is_equal eq (slice_get v i) (Some start))
unfolding starts_below is_start
is_start-after eq v zero run start count latest = absurd (omega (arith, count))
is_start-after eq v (suc i) run start count latest =
    let number : run ≡ run_number eq v i = omega (arith, length-starts_below eq v i) in
    let last : slice_get v (last_start eq v i) ≡ Some start = rw (number, last_start-at eq v i) at latest in
    rw last refl

module _ {V : Type 0} {eq : V → V → Bool} {v before : List V} {i : ℕ} {start : V} {run : ℕ} {vals : List V} {idxs : List ℕ} (so_far : IsEncodedTo eq v before i start run vals idxs) where
  -- a run starts here where the value does not equal the one at the start of the run before
  pub is_start-encoded : is_start eq v i ≡ not (is_equal eq (slice_get v i) (Some start))
  is_start-encoded = is_start-after eq v i run start so_far.count (sym (so_far.entries run (omega arith)) ∙ so_far.latest)

  -- writing the entry of the run before leaves the dictionary as it was
  pub same_entry : set vals run start ≡ vals
  same_entry = rw (← get_or_from_slice_get vals run start start so_far.latest) (set-get_or vals run start)

  indexes_more : (number : ℕ) → i < 1024 → number ≡ run_number eq v i → (j : ℕ) → j < i + 1 → get_or (set idxs i number) j 0 ≡ run_number eq v j
  indexes_more number within is = below_more _ _
      (λ j below. get_or-set_other idxs i j number 0 (λ same. omega (arith, same, below)) ∙ so_far.indexes j below)
      (get_or-set_same idxs i number 0 (omega (arith, so_far.idxs_long)) ∙ is)

  pub encoded_same : i < 1024 → is_start eq v i ≡ false → IsEncodedTo eq v before (i + 1) start run vals (set idxs i run)
  encoded_same within other =
      let same : starts_below eq v (i + 1) ≡ starts_below eq v i = rw add-one (starts_below-other eq v i other) in
      let number : run ≡ run_number eq v i = omega (arith, length-starts_below eq v i, so_far.count, ap length (starts_below-other eq v i other)) in
      record {
        vals_long = so_far.vals_long;
        idxs_long = rw length-set so_far.idxs_long;
        count = rw same so_far.count;
        latest = so_far.latest;
        entries = rw same so_far.entries;
        rest = so_far.rest;
        indexes = indexes_more run within number;
      }

  pub encoded_start : (value : V) → i < 1024 → run + 1 < 1024 → slice_get v i ≡ Some value → is_start eq v i ≡ true
      → IsEncodedTo eq v before (i + 1) value (run + 1) (set vals (run + 1) value) (set idxs i (run + 1))
  encoded_start value within room here starts =
      let longer : starts_below eq v (i + 1) ≡ starts_below eq v i ++ i ∷ [] = rw add-one (starts_below-start eq v i starts) in
      let number : run + 1 ≡ run_number eq v i = omega (arith, length-starts_below eq v i, so_far.count, ap length (starts_below-start eq v i starts) ∙ length_push (starts_below eq v i) i) in
      let fits : run + 1 < length vals = omega (arith, so_far.vals_long) in
      record {
        vals_long = rw length-set so_far.vals_long;
        idxs_long = rw length-set so_far.idxs_long;
        count = rw (longer, length_push (starts_below eq v i) i, so_far.count) refl;
        latest = slice_get-set_same vals (run + 1) value fits;
        entries = λ k most. elim (cases_lt k (run + 1)) [
          | inl old ↦
              slice_get-set_other vals (run + 1) k value (λ same. omega (arith, same, old))
              ∙ so_far.entries k (omega arith)
              ∙ rw (longer, get_or_append_left (starts_below eq v i) (i ∷ []) 0 k (omega (arith, so_far.count))) refl
          | inr new ↦
              let is : k ≡ run + 1 = omega arith in
              rw (is, slice_get-set_same vals (run + 1) value fits, longer, get_or_push (starts_below eq v i) i 0 (run + 1) so_far.count) (sym here)
        ];
        rest = drop-set-lt (run + 1 + 1) vals (run + 1) value (omega arith) ∙ drop_more_same vals before (run + 1) so_far.rest;
        indexes = indexes_more (run + 1) within number;
      }

  -- each index so far names an entry, with the value at the last start
  pub index-below : (j : ℕ) → j < i → get_or idxs j 0 < run + 1
  index-below j below = rw (so_far.indexes j below) (omega (arith, (last_start-among eq v j i below).0, so_far.count))

  pub entry-decoded : (j : ℕ) → j < i → slice_get vals (get_or idxs j 0) ≡ slice_get v (last_start eq v j)
  entry-decoded j below =
      let among = last_start-among eq v j i below in
      rw (so_far.indexes j below, so_far.entries (run_number eq v j) (omega (arith, among.0, so_far.count)), among.1) refl

-- place 0 is a start
pub encoded_first : {V : Type 0} (eq : V → V → Bool) (v vals : List V) (idxs : List ℕ) (start : V) → length vals ≡ 1024 → length idxs ≡ 1024
    → slice_get v 0 ≡ Some start → IsEncodedTo eq v vals 1 start 0 (set vals 0 start) (set idxs 0 0)
unfolding starts_below is_start run_number
encoded_first eq v vals idxs start vals_long idxs_long here =
    let written : slice_get (set vals 0 start) 0 ≡ Some start = slice_get-set_same vals 0 start (omega arith) in
    record {
      vals_long = rw length-set vals_long;
      idxs_long = rw length-set idxs_long;
      count = refl;
      latest = written;
      entries = λ k most. let is : k ≡ 0 = omega arith in rw (is, written) (sym here);
      rest = drop-set-lt 1 vals 0 start (omega arith);
      indexes = λ j below. let is : j ≡ 0 = omega arith in rw is (get_or-set_same idxs 0 0 0 (omega arith));
    }
