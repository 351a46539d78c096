-- A row of lanes side by side, read from a list or written to one.
use Rattle.std.proofs.Common.{◌≡◌, ◌≢◌, ℕ, ◌+◌, ◌-◌, ◌<◌, ◌≤◌, ◌++◌, List, drop, get_or, length, map, set, take, refl, ap, sym, ◌∙◌, arith, get_or-set_other, get_or-set_same, inl, inr}
use Rattle.std.proofs.lemmas.Bool.{cases_lt}
use Rattle.std.proofs.lemmas.List.{drop-map, get_or-append_right, get_or-drop, get_or-take, get_or_append_left, length-append, length-drop, length-map, length-set, length-take-le, map-append, map-set, take-map}
use Rattle.std.specs.List.{slice_index}
use Rattle.fastlanes_base.specs.Counted.{row_from, splice_row}
use Rattle.fastlanes_rows.specs.Rows.{HasLanes, IsStored}

-- the same row in other words
pub stored_same : (n to : ℕ) (at said : ℕ → ℕ) (v q : List ℕ) → HasLanes n at said → IsStored n to at v q → IsStored n to said v q
stored_same n to at said v q same stored = record {
  long = stored.long;
  here = λ j within. stored.here j within ∙ same j within;
  before = stored.before;
  after = stored.after;
}

-- the elements of a row of a list
pub taken_row : {X : Type 0} (number : X → ℕ) (n from : ℕ) (xs row : List X) → row ≡ row_from n from xs
    → (j : ℕ) → j < n → slice_index (map number row) j ≡ slice_index (map number xs) (from + j)
taken_row number n from xs row is j within =
    ap (λ l. slice_index (map number l) j) is
    ∙ ap (λ l. slice_index l j) (sym (take-map number n (drop from xs)) ∙ ap (take n) (sym (drop-map number from xs)))
    ∙ get_or-take n (drop from (map number xs)) j 0 within ∙ get_or-drop from (map number xs) j 0

-- a list of which a part is another
spliced : (n to : ℕ) (r v q : List ℕ) → length r ≡ n → to + n ≤ length v → q ≡ take to v ++ (r ++ drop (to + n) v) → IsStored n to (slice_index r) v q
spliced n to r v q second room is =
    let first : length (take to v) ≡ to = length-take-le to v (omega arith) in
    let third : length (drop (to + n) v) ≡ length v - (to + n) = length-drop (to + n) v in
    record {
      long = rw (is, length-append, length-append, first, second, third) (omega arith);
      here = λ j within.
          let at : to + j - to ≡ j = omega arith in
          rw is (get_or-append_right (take to v) _ to (to + j) 0 first (omega arith) ∙ rw at (get_or_append_left r _ 0 j (omega (arith, second))));
      before = λ i h. rw is (get_or_append_left (take to v) _ 0 i (omega arith) ∙ get_or-take to v i 0 h);
      after = λ i h.
          let at : to + n + (i - to - n) ≡ i = omega arith in
          rw is (get_or-append_right (take to v) _ to i 0 first (omega arith)
          ∙ get_or-append_right r _ n (i - to) 0 second (omega arith)
          ∙ get_or-drop (to + n) v (i - to - n) 0 ∙ ap (λ (k : ℕ). get_or v k 0) at);
    }

-- a row in the place of as many elements
pub stored_row : {X : Type 0} (number : X → ℕ) (n to : ℕ) (at : ℕ → ℕ) (row v q : List X) → length row ≡ n → to + n ≤ length v
    → HasLanes n (slice_index (map number row)) at → q ≡ splice_row to row v → IsStored n to at (map number v) (map number q)
stored_row number n to at row v q long room same is =
    let in_row : length (map number row) ≡ n = length-map row number ∙ long in
    let parts : map number q ≡ take to (map number v) ++ (map number row ++ drop (to + n) (map number v)) =
    rw (is, map-append, map-append, long, ← take-map, ← drop-map) refl in
    stored_same n to _ at _ _ same (spliced n to (map number row) (map number v) (map number q) in_row (rw length-map room) parts)

-- one element in the place of another
pub stored_one : {X : Type 0} (number : X → ℕ) (to : ℕ) (x : X) (v q : List X) → to < length v → q ≡ set v to x → IsStored 1 to (λ j. number x) (map number v) (map number q)
stored_one number to x v q room is =
    let put : map number q ≡ set (map number v) to (number x) = ap (map number) is ∙ map-set number v to x in
    rw put record {
      long = length-set (map number v) to (number x);
      here = λ j within.
          let there : to + j ≡ to = omega arith in
          rw there (get_or-set_same (map number v) to (number x) 0 (rw length-map room));
      before = λ i below. get_or-set_other (map number v) to i (number x) 0 (omega arith);
      after = λ i past. get_or-set_other (map number v) to i (number x) 0 (omega arith);
    }

-- a place that is none of a stored row's
pub stored_elsewhere : (n to i : ℕ) (at : ℕ → ℕ) (v q : List ℕ) → IsStored n to at v q → ((j : ℕ) → j < n → i ≢ to + j) → slice_index q i ≡ slice_index v i
stored_elsewhere n to i at v q stored apart = elim (cases_lt i to) [
  | inl below ↦ stored.before i below
  | inr from ↦ elim (cases_lt i (to + n)) [
    | inl inside ↦ absurd (apart (i - to) (omega arith) (omega arith))
    | inr past ↦ stored.after i past
  ]
]
