-- Sums of digits by lanes, a row longer.
use Rattle.std.proofs.Common.{◌≡◌, ◌⊎◌, ℕ, ◌+◌, ◌-◌, ◌*◌, ◌/◌, ◌%◌, ◌^◌, ◌<◌, ◌≤◌, zero, suc, nat_eq, if◌then◌else◌, List, [], ◌++◌, length, ap, sym, ◌∙◌, arith, refl, inl, inr, lit<, le_of_lt, lt_of_lt_of_le}
use Rattle.std.proofs.Math.Nat.{div-eq_of_lt, lt_of_mul-lt-mul_right, mod-eq_of_lt, mod-mod, mul-le-mul_right, pow-le-pow_right}
use Rattle.std.proofs.lemmas.Bool.{cases_Bool, cases_lt, eqb-true, leb-true}
use Rattle.std.proofs.lemmas.List.{length-append, length-map}
use Rattle.std.proofs.lemmas.List.Elements.{All-map}
use Rattle.std.proofs.lemmas.List.FromFn.{length-map-range_with_len, length-range_with_len, sum_by-map-range_with_len_more}
use Rattle.std.proofs.lemmas.List.Sums.{sum-map, sum_by-append, sum_by-le}
use Rattle.std.proofs.lemmas.Nat.{div-add-mod', div_below, mod_below, mul-mod_first, pow-add, pow_pos}
use Rattle.std.proofs.lemmas.Simd.{map-map}
use Rattle.std.specs.List.{range_with_len, sum, sum_by}
use Rattle.fastlanes_base.specs.Digits.{digit, digits}
use Rattle.fastlanes_base.specs.Element.{IsLayout, IsWordSize}
use Rattle.fastlanes_rows.specs.Rows.{HasLanes, LanesBelow, MakesGroups}
use Rattle.fastlanes_blocks.specs.Sums.{IsSummed, cut, lanes_sum, low_bound, words_hold}
use Rattle.fastlanes_blocks.specs.Walks.{row_values}

-- one lane more
pub lanes_sum_more : (n : ℕ) (at : ℕ → ℕ) → lanes_sum (n + 1) at ≡ lanes_sum n at + at n
lanes_sum_more n at = sum_by-map-range_with_len_more (λ x. x) at 0 n n (omega arith)

lanes_sum_suc : (n : ℕ) (at : ℕ → ℕ) → lanes_sum (suc n) at ≡ lanes_sum n at + at n
lanes_sum_suc n at =
    let next : suc n ≡ n + 1 = omega arith in
    ap (λ k. lanes_sum k at) next ∙ lanes_sum_more n at

-- lanes that have the sums of two values, modulo 2 ^ 64
sum_added : (n : ℕ) (at by new : ℕ → ℕ) → ((j : ℕ) → j < n → new j % 2 ^ 64 ≡ (at j + by j) % 2 ^ 64)
    → lanes_sum n new % 2 ^ 64 ≡ (lanes_sum n at + lanes_sum n by) % 2 ^ 64
sum_added zero at by new each = refl
sum_added (suc n) at by new each =
    omega (arith, lanes_sum_suc n new, lanes_sum_suc n at, lanes_sum_suc n by, sum_added n at by new (λ j below. each j (omega arith)), each n (omega arith))

-- and of two values as they are
sum_added_whole : (n : ℕ) (at by new : ℕ → ℕ) → ((j : ℕ) → j < n → new j ≡ at j + by j) → lanes_sum n new ≡ lanes_sum n at + lanes_sum n by
sum_added_whole zero at by new each = refl
sum_added_whole (suc n) at by new each =
    omega (arith, lanes_sum_suc n new, lanes_sum_suc n at, lanes_sum_suc n by, sum_added_whole n at by new (λ j below. each j (omega arith)), each n (omega arith))

-- and of nothing
lanes_sum_none : (n : ℕ) (none : ℕ → ℕ) → HasLanes n none (λ j. 0) → lanes_sum n none ≡ 0
lanes_sum_none zero none zeros = refl
lanes_sum_none (suc n) none zeros = omega (arith, lanes_sum_suc n none, lanes_sum_none n none (λ j below. zeros j (omega arith)), zeros n (omega arith))

-- values in two parts
sum_of_parts : (n d : ℕ) (value : ℕ → ℕ) → lanes_sum n (λ j. value j % d) + d * lanes_sum n (λ j. value j / d) ≡ lanes_sum n value
sum_of_parts zero d value = omega arith
sum_of_parts (suc n) d value =
    omega (arith, lanes_sum_suc n (λ j. value j % d), ap (λ x. d * x) (lanes_sum_suc n (λ j. value j / d)), lanes_sum_suc n value, sum_of_parts n d value, div-add-mod' (value n) d)

-- what a row of values adds to the sum
row_sum : (n from : ℕ) (value : ℕ → ℕ) → sum_by (λ a. a.1) (row_values n from value) ≡ lanes_sum n value
row_sum n from value = sym (sum-map (λ a. a.1) (row_values n from value)) ∙ ap sum (map-map (λ a. a.1) _ (range_with_len 0 n))

-- a row of parts below a bound is added, and no word is too short for it
adds_more : (t n count bound x part : ℕ) → 0 < n → 0 < bound → 1024 * bound ≤ n * 2 ^ t → count + n ≤ 1024 → part < bound
    → x * n ≤ count * (bound - 1) → (x + part < 2 ^ t) × ((x + part) * n ≤ (count + n) * (bound - 1))
adds_more t n count bound x part some positive room counted below sums =
    let more : part * n ≤ (bound - 1) * n = mul-le-mul_right n (omega arith) in
    let both : (x + part) * n ≤ (count + n) * (bound - 1) = omega (arith, sums, more) in
    let all : (count + n) * (bound - 1) ≤ 1024 * (bound - 1) = mul-le-mul_right (bound - 1) counted in
    (lt_of_mul-lt-mul_right n (omega (arith, both, all, room, positive)), both)

-- whether digits are added up whole
cut_is : (t n w : ℕ) → ((cut t n w ≡ t) × ((t ≡ 64) ⊎ ((1024 * 2 ^ w ≤ n * 2 ^ t) × (low_bound t n w ≡ 2 ^ w)))) ⊎ ((cut t n w ≡ t / 2) × (low_bound t n w ≡ 2 ^ (t / 2)))
cut_is t n w = elim (cases_Bool (nat_eq t 64)) [
  | inl most ↦ inl (ap (λ b. if b then t else (if words_hold t n w then t else t / 2)) most, inl (eqb-true t 64 most))
  | inr fewer ↦ elim (cases_Bool (words_hold t n w)) [
    | inl hold ↦ inl ((λ i. if fewer i then t else (if hold i then t else t / 2)), inr (leb-true _ _ hold, ap (λ b. if b then 2 ^ w else 2 ^ (t / 2)) hold))
    | inr short ↦ inr ((λ i. if fewer i then t else (if short i then t else t / 2)), ap (λ b. if b then 2 ^ w else 2 ^ (t / 2)) short)
  ]
]

-- two halves make a word
halves : (t : ℕ) → IsWordSize t → t / 2 + t / 2 ≡ t
halves t size = grind (arith, size)

-- lanes have a row of digits more
pub record Adds (t n w : ℕ) (low high value new_low new_high : ℕ → ℕ) : Type 0 where
  pub lower : (j : ℕ) → j < n → new_low j ≡ (low j + value j % 2 ^ cut t n w) % 2 ^ t
  pub upper : (j : ℕ) → j < n → new_high j ≡ (high j + value j / 2 ^ cut t n w) % 2 ^ t

-- the parts of digits are below their bounds
parts_below : (t n w : ℕ) (x : ℕ) → IsWordSize t → w ≤ t → x < 2 ^ w → (t < 64 → x % 2 ^ cut t n w < low_bound t n w) × (x / 2 ^ cut t n w < 2 ^ (t / 2))
parts_below t n w x size narrow below =
    let wide : 2 ^ w ≤ 2 ^ t = pow-le-pow_right (lit< tt) narrow in
    let fits : x < 2 ^ t = omega (arith, below, wide) in
    let none : x / 2 ^ t < 2 ^ (t / 2) = rw (div-eq_of_lt fits) (pow_pos (t / 2)) in
    let half : x / 2 ^ (t / 2) < 2 ^ (t / 2) = div_below x (2 ^ (t / 2)) (2 ^ (t / 2)) (pow_pos (t / 2)) (rw (← pow-add 2 (t / 2) (t / 2), halves t size) fits) in
    elim (cut_is t n w) [
      | inl (whole, inl most) ↦ (λ fewer. absurd (omega (arith, most, fewer)), rw whole none)
      | inl (whole, inr (hold, bound)) ↦ (λ fewer. rw (whole, bound, mod-eq_of_lt fits) below, rw whole none)
      | inr (parts, bound) ↦ (λ fewer. rw (parts, bound) (mod_below x (2 ^ (t / 2)) (pow_pos (t / 2))), rw parts half)
    ]

-- words have room for all upper parts
high_room : (t n : ℕ) → IsWordSize t → 1024 ≤ n * 2 ^ (t / 2) → 1024 * 2 ^ (t / 2) ≤ n * 2 ^ t
high_room t n size half =
    let more : 1024 * 2 ^ (t / 2) ≤ n * 2 ^ (t / 2) * 2 ^ (t / 2) = mul-le-mul_right (2 ^ (t / 2)) half in
    let whole : 2 ^ (t / 2) * 2 ^ (t / 2) ≡ 2 ^ t = sym (pow-add 2 (t / 2) (t / 2)) ∙ ap (λ k. 2 ^ k) (halves t size) in
    omega (arith, more, ap (λ k. n * k) whole)

-- and for all lower ones
low_room : (t n w : ℕ) → IsWordSize t → t < 64 → 1024 ≤ n * 2 ^ (t / 2) → (0 < low_bound t n w) × (1024 * low_bound t n w ≤ n * 2 ^ t)
low_room t n w size fewer half = elim (cut_is t n w) [
  | inl (whole, inl most) ↦ absurd (omega (arith, most, fewer))
  | inl (whole, inr (hold, bound)) ↦ rw bound (pow_pos w, hold)
  | inr (parts, bound) ↦ rw bound (pow_pos (t / 2), high_room t n size half)
]

-- the sums of lanes with a row of digits more
pub summed_more : (t n w from : ℕ) (low high value new_low new_high : ℕ → ℕ) (taken : List (ℕ × ℕ)) → IsWordSize t → 0 < n → w ≤ t
    → 1024 ≤ n * 2 ^ (t / 2) → length taken + n ≤ 1024 → LanesBelow n value (2 ^ w) → Adds t n w low high value new_low new_high
    → IsSummed t n w low high taken → IsSummed t n w new_low new_high (taken ++ row_values n from value)
summed_more t n w from low high value new_low new_high taken size some narrow half room below adds sums =
    let c = 2 ^ cut t n w in
    let count : length (taken ++ row_values n from value) ≡ length taken + n =
    length-append taken _ ∙ ap (λ k. length taken + k) (length-map _ _ ∙ length-range_with_len 0 n) in
    let upper : (j : ℕ) → j < n → (high j + value j / c < 2 ^ t) × ((high j + value j / c) * n ≤ (length taken + n) * (2 ^ (t / 2) - 1)) = λ j inside.
    adds_more t n (length taken) (2 ^ (t / 2)) (high j) (value j / c) some (pow_pos (t / 2)) (high_room t n size half) room
    (parts_below t n w (value j) size narrow (below j inside)).1 (sums.high_fits j inside) in
    let lower : t < 64 → (j : ℕ) → j < n → (low j + value j % c < 2 ^ t) × ((low j + value j % c) * n ≤ (length taken + n) * (low_bound t n w - 1)) = λ fewer j inside.
    let roomy = low_room t n w size fewer half in
    adds_more t n (length taken) (low_bound t n w) (low j) (value j % c) some roomy.0 roomy.1 room
    ((parts_below t n w (value j) size narrow (below j inside)).0 fewer) (sums.low_fits fewer j inside) in
    let new_upper : (j : ℕ) → j < n → new_high j ≡ high j + value j / c = λ j inside. adds.upper j inside ∙ mod-eq_of_lt (upper j inside).0 in
    let new_lower : (j : ℕ) → j < n → new_low j % 2 ^ 64 ≡ (low j + value j % c) % 2 ^ 64 = λ j inside. elim (cases_lt t 64) [
      | inl fewer ↦ ap (λ x. x % 2 ^ 64) (adds.lower j inside ∙ mod-eq_of_lt (lower fewer j inside).0)
      | inr more ↦
          let most : t ≡ 64 = grind (arith, size, more) in
          ap (λ x. x % 2 ^ 64) (adds.lower j inside ∙ ap (λ k. (low j + value j % c) % 2 ^ k) most) ∙ mod-mod (low j + value j % c) (2 ^ 64)
    ] in
    let low_total = sum_added n low (λ j. value j % c) new_low new_lower in
    let high_total = sum_added_whole n high (λ j. value j / c) new_high new_upper in
    let parts = sum_of_parts n c value in
    let added = row_sum n from value in
    record {
      total = rw (sum_by-append (λ a. a.1) taken (row_values n from value), added, ← parts, high_total) (omega (arith, low_total, sums.total));
      low_fits = λ fewer j inside. rw (count, adds.lower j inside, mod-eq_of_lt (lower fewer j inside).0) (lower fewer j inside).1;
      high_fits = λ j inside. rw (count, new_upper j inside) (upper j inside).1;
      whole = λ all j inside.
          let wide : 2 ^ w ≤ 2 ^ t = pow-le-pow_right (lit< tt) narrow in
          let fits : value j < 2 ^ t = omega (arith, below j inside, wide) in
          new_upper j inside ∙ rw all (omega (arith, sums.whole all j inside, div-eq_of_lt fits));
    }

-- whole digits are added, and no upper parts
pub adds_whole : (t n w : ℕ) (low high value new_low : ℕ → ℕ) (taken : List (ℕ × ℕ)) → IsWordSize t → 0 < n → w ≤ t
    → 1024 ≤ n * 2 ^ (t / 2) → length taken + n ≤ 1024 → LanesBelow n value (2 ^ w) → IsSummed t n w low high taken → cut t n w ≡ t
    → HasLanes n new_low (λ j. (low j + value j) % 2 ^ t) → Adds t n w low high value new_low high
adds_whole t n w low high value new_low taken size some narrow half room below sums whole plus =
    let wide : 2 ^ w ≤ 2 ^ t = pow-le-pow_right (lit< tt) narrow in
    let fits : (j : ℕ) → j < n → value j < 2 ^ t = λ j inside. omega (arith, below j inside, wide) in
    record {
      lower = λ j inside. rw (whole, mod-eq_of_lt (fits j inside)) (plus j inside);
      upper = λ j inside.
          let same : high j + 0 ≡ high j = omega arith in
          let room_there = adds_more t n (length taken) (2 ^ (t / 2)) (high j) 0 some (pow_pos (t / 2)) (high_room t n size half) room (pow_pos (t / 2)) (sums.high_fits j inside) in
          rw (whole, div-eq_of_lt (fits j inside), same) (sym (mod-eq_of_lt (rw same at room_there.0)));
    }

-- before the first digit
pub summed_none : (t n w : ℕ) (none : ℕ → ℕ) → HasLanes n none (λ j. 0) → IsSummed t n w none none []
summed_none t n w none zeros =
    let nothing = lanes_sum_none n none zeros in
    record {
      total = rw nothing (omega arith);
      low_fits = λ fewer j inside. rw (zeros j inside) (omega arith);
      high_fits = λ j inside. rw (zeros j inside) (omega arith);
      whole = λ all j inside. zeros j inside;
    }

-- all digits are in the lower parts where these are whole
pub whole_total : (t n w : ℕ) (low high : ℕ → ℕ) (taken : List (ℕ × ℕ)) → cut t n w ≡ t → IsSummed t n w low high taken → lanes_sum n low % 2 ^ 64 ≡ sum_by (λ a. a.1) taken % 2 ^ 64
whole_total t n w low high taken whole sums =
    let none = lanes_sum_none n high (sums.whole whole) in
    let same : lanes_sum n low + 2 ^ cut t n w * 0 ≡ lanes_sum n low = omega arith in
    rw (none, same) at sums.total

-- and else in both, of which the upper ones are moved up modulo 2 ^ 64
pub parts_total : (t n w low_sum high_sum : ℕ) (low high : ℕ → ℕ) (taken : List (ℕ × ℕ)) → low_sum ≡ lanes_sum n low % 2 ^ 64 → high_sum ≡ lanes_sum n high % 2 ^ 64
    → IsSummed t n w low high taken → (low_sum + high_sum * 2 ^ cut t n w % 2 ^ 64) % 2 ^ 64 ≡ sum_by (λ a. a.1) taken % 2 ^ 64
parts_total t n w low_sum high_sum low high taken low_is high_is sums =
    let up : high_sum * 2 ^ cut t n w % 2 ^ 64 ≡ lanes_sum n high * 2 ^ cut t n w % 2 ^ 64 = rw high_is (mul-mod_first (lanes_sum n high) (2 ^ cut t n w) (2 ^ 64)) in
    let turn : 2 ^ cut t n w * lanes_sum n high ≡ lanes_sum n high * 2 ^ cut t n w = omega arith in
    omega (arith, low_is, up, rw turn at sums.total)

-- a group has no more lanes than a block
pub lanes_fit : (t n lanes : ℕ) → IsLayout t lanes → MakesGroups lanes n → n ≤ 128
lanes_fit t n lanes layout groups = grind (arith, layout.size, layout.area, groups.1)

-- and some
pub lanes_some : (n k : ℕ) → 1024 ≤ n * k → 0 < n
lanes_some zero k many = absurd (omega (arith, many))
lanes_some (suc n) k many = omega arith

-- 1024 numbers of at most 2 ^ 32 add up to less than 2 ^ 64
few_and_small : (total count : ℕ) → count ≡ 1024 → total ≤ count * 2 ^ 32 → total < 2 ^ 64
few_and_small total count few small = omega (arith, few, small)

-- and so do the digits of a block, but of words of 64 bits
pub sum_fits : (t lanes w : ℕ) (p : List ℕ) → IsWordSize t → w ≤ t → t < 64 → sum (digits t lanes w p) < 2 ^ 64
unfolding digit digits
sum_fits t lanes w p size narrow fewer =
    let short : t ≤ 32 = grind (arith, size, fewer) in
    let few : w ≤ 32 = omega (arith, narrow, short) in
    let wide : 2 ^ w ≤ 2 ^ 32 = pow-le-pow_right (lit< tt) few in
    let each = All-map (λ x. x ≤ 2 ^ 32) (digit t lanes w p) (range_with_len 0 1024) (λ k d inside. le_of_lt (lt_of_lt_of_le (mod_below _ (2 ^ w) (pow_pos w)) wide)) in
    few_and_small _ _ (length-map-range_with_len (digit t lanes w p) 0 1024) (sum_by-le (λ x. x) (2 ^ 32) (digits t lanes w p) each)
