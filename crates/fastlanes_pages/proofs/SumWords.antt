-- One value of a block of differences: its lane's base, and the digits of the lane's rows up to it.
use Rattle.std.proofs.Common.{◌≡◌, ℕ, ◌+◌, ◌*◌, ◌/◌, ◌%◌, ◌^◌, ◌<◌, ◌∙◌, List, ap, arith, map, sum, sym, zero-add}
use Rattle.std.proofs.Math.Nat.{mod-add-mod, mod-eq_of_lt}
use Rattle.std.proofs.lemmas.List.FromFn.{get_or-map-range_with_len, sum_by-map-range_with_len_more}
use Rattle.std.specs.List.{range_with_len, slice_index}
use Rattle.fastlanes.specs.Delta.{row_undelta, undeltas}
use Rattle.fastlanes.specs.Digits.{digit, digits}
use Rattle.fastlanes.specs.Order.{lane_at, place, row_at}
use Rattle.fastlanes.specs.Transposition.{untransposed}
use Rattle.fastlanes.proofs.Transposing.{original_index-lt, slice_index-untransposed}
use Rattle.fastlanes_pages.specs.ColumnValues.{words_in}

module _ (t lanes width : ℕ) (before bytes : List ℕ) where
  -- the digit of a row of a lane
  abbrev pub row_digit : ℕ → ℕ → ℕ
  row_digit lane row = slice_index (digits t lanes width (words_in t (lanes * width) bytes)) (place row lane)

  -- the base of a lane and the digits of its first n rows
  abbrev pub lane_sum : ℕ → ℕ → ℕ
  lane_sum lane n = (slice_index (words_in t lanes before) lane + sum (map (row_digit lane) (range_with_len 0 n))) % 2 ^ t

  -- the digits are those of the places
  digit_is : (i : ℕ) → i < 1024 → slice_index (digits t lanes width (words_in t (lanes * width) bytes)) i ≡ digit t lanes width (words_in t (lanes * width) bytes) i
  unfolding digits
  digit_is i inside = get_or-map-range_with_len (digit t lanes width (words_in t (lanes * width) bytes)) 0 1024 i i 0 inside (zero-add i)

  -- before the first row there is the base
  pub sum_none : (lane x : ℕ) → x < 2 ^ t → slice_index (words_in t (lanes * 1) before) lane ≡ x → x ≡ lane_sum lane 0
  sum_none lane x small is =
      let one : lanes * 1 ≡ lanes = omega arith in
      let base : slice_index (words_in t (lanes * 1) before) lane ≡ slice_index (words_in t lanes before) lane =
      ap (λ n. slice_index (words_in t n before) lane) one in
      let none : slice_index (words_in t lanes before) lane + 0 ≡ x = omega (arith, base, is) in
      sym (mod-eq_of_lt small) ∙ ap (λ m. m % 2 ^ t) (sym none)

  -- and one more
  pub sum_more : (lane n before_it value : ℕ) → place n lane < 1024 → before_it ≡ lane_sum lane n → value ≡ digit t lanes width (words_in t (lanes * width) bytes) (place n lane)
      → (before_it + value) % 2 ^ t ≡ lane_sum lane (n + 1)
  sum_more lane n before_it value inside is_before is =
      let base = slice_index (words_in t lanes before) lane in
      let first = sum (map (row_digit lane) (range_with_len 0 n)) in
      let last = row_digit lane n in
      let more : sum (map (row_digit lane) (range_with_len 0 (n + 1))) ≡ first + last = sum_by-map-range_with_len_more (λ x. x) (row_digit lane) 0 n n (zero-add n) in
      let parts : base + (first + last) ≡ base + first + last = omega arith in
      ap (λ m. (m + value) % 2 ^ t) is_before
      ∙ ap (λ m. ((base + first) % 2 ^ t + m) % 2 ^ t) (is ∙ sym (digit_is (place n lane) inside))
      ∙ mod-add-mod (base + first) (2 ^ t) last
      ∙ ap (λ m. m % 2 ^ t) (sym parts) ∙ ap (λ m. (base + m) % 2 ^ t) (sym more)

  -- the value at a place, in the order of neighbours
  pub sums_are : (i : ℕ) → i < 1024
      → slice_index (untransposed (undeltas t lanes (words_in t lanes before) (digits t lanes width (words_in t (lanes * width) bytes)))) i
      ≡ lane_sum (lane_at lanes (place (i % 64) (i / 64))) (row_at lanes (place (i % 64) (i / 64)) + 1)
  unfolding undeltas
  sums_are i inside =
      let d = digits t lanes width (words_in t (lanes * width) bytes) in
      let bases = words_in t lanes before in
      let p = place (i % 64) (i / 64) in
      slice_index-untransposed (undeltas t lanes bases d) i inside
      ∙ get_or-map-range_with_len (λ j. row_undelta t bases (λ lane row. slice_index d (place row lane)) (lane_at lanes j) (row_at lanes j)) 0 1024 p p 0
      (original_index-lt i inside) (zero-add p)
