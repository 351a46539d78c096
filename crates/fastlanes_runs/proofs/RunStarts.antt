-- The starts of a block, place by place.
use Rattle.std.proofs.Common.{inl, inr, length-append, ◌≡◌, ℕ, ◌+◌, ◌<◌, zero, suc, Bool, true, false, cond, Option, Some, None, List, [], ◌∷◌, ◌++◌, length, get_or, refl, sym, ◌∙◌, ap, zero-add, arith, slice_get}
use Rattle.std.specs.List.{filter, range_with_len}
use Rattle.std.proofs.lemmas.Bool.{cases_Bool, cases_lt, false≢true, not-false}
use Rattle.std.proofs.lemmas.List.{append-nil, get_or_append_left, get_or_push, length_push}
use Rattle.std.proofs.lemmas.List.Elements.{filter-append}
use Rattle.std.proofs.lemmas.Option.{get_or_from_slice_get, slice_get_within}
use Rattle.fastlanes_runs.specs.RunLengths.{differs, is_equal, last_start, is_start, starts_below, run_number, IsIdentityOn}

range_with_len-more : (a n : ℕ) → range_with_len a (suc n) ≡ range_with_len a n ++ (a + n) ∷ []
range_with_len-more a zero = grind arith
range_with_len-more a (suc n) = grind (arith, range_with_len-more (a + 1) n)

module _ {V : Type 0} (eq : V → V → Bool) (v : List V) where
  pub starts_below-more : (i : ℕ) → starts_below eq v (suc i) ≡ starts_below eq v i ++ cond (is_start eq v i) (i ∷ []) []
  unfolding starts_below
  starts_below-more i =
      ap (filter (is_start eq v)) (range_with_len-more 0 i) ∙ filter-append (is_start eq v) (range_with_len 0 i) ((0 + i) ∷ [])
      ∙ rw zero-add refl

  pub starts_below-start : (i : ℕ) → is_start eq v i ≡ true → starts_below eq v (suc i) ≡ starts_below eq v i ++ i ∷ []
  starts_below-start i is = grind (arith, starts_below-more i)

  pub starts_below-other : (i : ℕ) → is_start eq v i ≡ false → starts_below eq v (suc i) ≡ starts_below eq v i
  starts_below-other i is = grind (arith, starts_below-more i, append-nil (starts_below eq v i))

  -- the places up to i have one start more than those of 1 to i
  pub length-starts_below : (i : ℕ) → length (starts_below eq v (suc i)) ≡ suc (run_number eq v i)
  unfolding starts_below run_number is_start
  length-starts_below i = refl

  last_start-start : (i : ℕ) → is_start eq v i ≡ true → last_start eq v i ≡ i
  unfolding is_start last_start
  last_start-start zero is = refl
  last_start-start (suc i) is = rw is refl

  last_start-other : (i : ℕ) → is_start eq v (suc i) ≡ false → last_start eq v (suc i) ≡ last_start eq v i
  unfolding is_start last_start
  last_start-other i is = rw is refl

  next_last_start : (i : ℕ) (b : Bool) → is_start eq v (suc i) ≡ b
      → get_or (starts_below eq v (suc i)) (run_number eq v i) 0 ≡ last_start eq v i
      → get_or (starts_below eq v (suc (suc i))) (run_number eq v (suc i)) 0 ≡ last_start eq v (suc i)
  next_last_start i true is here =
      let longer : starts_below eq v (suc (suc i)) ≡ starts_below eq v (suc i) ++ suc i ∷ [] = starts_below-start (suc i) is in
      let number : length (starts_below eq v (suc i)) ≡ run_number eq v (suc i) = omega (arith, length-starts_below (suc i), ap length longer ∙ length_push (starts_below eq v (suc i)) (suc i)) in
      rw (longer, get_or_push (starts_below eq v (suc i)) (suc i) 0 (run_number eq v (suc i)) number) (sym (last_start-start (suc i) is))
  next_last_start i false is here =
      let same : starts_below eq v (suc (suc i)) ≡ starts_below eq v (suc i) = starts_below-other (suc i) is in
      let number : run_number eq v (suc i) ≡ run_number eq v i = omega (arith, length-starts_below (suc i), length-starts_below i, ap length same) in
      rw (same, number, last_start-other i is) here

  -- the greatest start up to a place is the last of the starts up to it
  pub last_start-at : (i : ℕ) → get_or (starts_below eq v (suc i)) (run_number eq v i) 0 ≡ last_start eq v i
  unfolding starts_below run_number is_start last_start
  last_start-at zero = refl
  last_start-at (suc i) = next_last_start i (is_start eq v (suc i)) refl (last_start-at i)

  -- the starts up to a place stand among all starts as they stand among themselves
  pub last_start-among : (i n : ℕ) → i < n
      → (run_number eq v i < length (starts_below eq v n)) × (get_or (starts_below eq v n) (run_number eq v i) 0 ≡ last_start eq v i)
  last_start-among i zero below = absurd (omega arith)
  last_start-among i (suc n) below = elim (cases_lt i n) [
    | inl before ↦
        let among = last_start-among i n before in
        let more : List ℕ = cond (is_start eq v n) (n ∷ []) [] in
        let longer : starts_below eq v (suc n) ≡ starts_below eq v n ++ more = starts_below-more n in (
          omega (arith, among.0, ap length longer, length-append (starts_below eq v n) more),
          rw (longer, get_or_append_left (starts_below eq v n) more 0 (run_number eq v i) among.0) among.1,
        )
    | inr last ↦
        let here : i ≡ n = omega arith in
        rw (← here) (omega (arith, length-starts_below i), last_start-at i)
  ]

  same_value : IsIdentityOn eq v → (i s : ℕ) (x y : Option V) → slice_get v i ≡ x → slice_get v s ≡ y → is_equal eq x y ≡ true → y ≡ x
  same_value one i s None y x_is y_is equal = absurd (false≢true equal)
  same_value one i s (Some a) None x_is y_is equal = absurd (false≢true equal)
  same_value one i s (Some a) (Some b) x_is y_is equal =
      ap Some (sym (one a b
      (i, slice_get_within v i a x_is, get_or_from_slice_get v i a a x_is)
      (s, slice_get_within v s b y_is, get_or_from_slice_get v s b b y_is) equal))

  -- where equal values are one, the value at the last start is the value here
  pub value-last_start : IsIdentityOn eq v → (i : ℕ) → slice_get v (last_start eq v i) ≡ slice_get v i
  unfolding last_start
  value-last_start one zero = refl
  value-last_start one (suc i) = elim (cases_Bool (differs eq v (suc i) (last_start eq v i))) [
    | inl other ↦ rw other refl
    | inr same ↦ rw same (same_value one (suc i) (last_start eq v i) _ _ refl refl (not-false _ same))
  ]
