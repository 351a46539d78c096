-- The bounds of the values of a delta block.
use Rattle.std.proofs.Common.{◌≡◌, ℕ, ◌+◌, ◌-◌, ◌*◌, ◌/◌, ◌%◌, ◌^◌, ◌<◌, ◌≤◌, ◌∙◌, All, Bool, List, [], ◌∷◌, zero, suc, ap, arith, drop, if◌then◌else◌, inl, inr, length, map, max, min, sum, sym, take, zero-add}
use Rattle.std.proofs.Math.Nat.{le-div_iff_mul-le, mod-eq_of_lt, mul-le-mul_right, mul_comm}
use Rattle.std.proofs.lemmas.Bool.{cases_lt, le-ltb, lt-ltb}
use Rattle.std.proofs.lemmas.List.{get_or_past}
use Rattle.std.proofs.lemmas.List.Elements.{All-from_get_or}
use Rattle.std.proofs.lemmas.List.FromFn.{get_or-map-range_with_len, length-map-range_with_len, map-range_with_len_more, sum_by-map-range_with_len_more}
use Rattle.std.proofs.lemmas.List.Sums.{fold-append}
use Rattle.std.proofs.lemmas.Nat.{mod_below, pow_pos}
use Rattle.std.specs.List.{range_with_len, slice_index}
use Rattle.std.specs.Prelude.{fold}
use Rattle.fastlanes.proofs.Transposing.{original_index-lt}
use Rattle.fastlanes.specs.Delta.{undeltas}
use Rattle.fastlanes.specs.Digits.{digits}
use Rattle.fastlanes.specs.Order.{lane_at, place, row_at}
use Rattle.fastlanes.specs.Transposition.{original_index, untransposed}
use Rattle.fastlanes_base.proofs.Places.{row_at-lt, some_lanes}
use Rattle.fastlanes_base.specs.Element.{IsLayout}
use Rattle.fastlanes_format.specs.Format.{number_at}
use Rattle.fastlanes_pages.proofs.FrameWords.{count_digits, difference_is, digit_below, digit_is, fold_max_each, fold_min_each, low_ones, word_is}
use Rattle.fastlanes_pages.proofs.SumWords.{row_digit, sums_are}
use Rattle.fastlanes_pages.specs.ColumnValues.{sums_values, words_in}
use Rattle.fastlanes_pages.specs.Heads.{sums_greatest, sums_least, sums_most}

-- a fold over words, with one more
pub fold_more : (f : ℕ → ℕ → ℕ) (t lanes a n word so_far next : ℕ) (bytes : List ℕ) → n < lanes → slice_index (words_in t (lanes * 1) bytes) n ≡ word
    → so_far ≡ fold f a (words_in t n bytes) → next ≡ f so_far word → next ≡ fold f a (words_in t (n + 1) bytes)
fold_more f t lanes a n word so_far next bytes inside is folded of_next =
    let at = λ (k : ℕ). number_at (t / 8) bytes (t / 8 * k) in
    let before : ℕ = fold f a (words_in t n bytes) in
    let last : at n ≡ word = sym (get_or-map-range_with_len at 0 (lanes * 1) n n 0 (omega (arith, inside)) (zero-add n)) ∙ is in
    of_next ∙ ap (λ m. f m word) folded ∙ ap (f before) (sym last) ∙ sym (fold-append f a (words_in t n bytes) (at n ∷ []))
    ∙ ap (fold f a) (sym (map-range_with_len_more at 0 n n (zero-add n)))

-- a sum of n numbers, each at most m
sum_below : (f : ℕ → ℕ) (m n : ℕ) → ((k : ℕ) → f k ≤ m) → sum (map f (range_with_len 0 n)) ≤ n * m
sum_below f m zero each = omega arith
sum_below f m (suc n) each =
    let next : n + 1 ≡ suc n = omega arith in
    let more : sum (map f (range_with_len 0 (n + 1))) ≡ sum (map f (range_with_len 0 n)) + f n = sum_by-map-range_with_len_more (λ x. x) f 0 n n (zero-add n) in
    let same = ap (λ k. sum (map f (range_with_len 0 k))) next in
    omega (arith, each n, sum_below f m n each, more, same)

module _ (t w : ℕ) (bases : List ℕ) where
  -- the bounds, if the greatest sum is below 2 ^ t
  sums_kept : sums_most t w bases < 2 ^ t → (sums_least t w bases ≡ fold min (2 ^ t - 1) bases) × (sums_greatest t w bases ≡ sums_most t w bases)
  unfolding sums_least sums_greatest
  sums_kept fits = (ap (λ (b : Bool). if b then fold min (2 ^ t - 1) bases else 0) (lt-ltb (sums_most t w bases) (2 ^ t) fits), omega (arith, fits))

  -- and else
  sums_lost : 2 ^ t ≤ sums_most t w bases → (sums_least t w bases ≡ 0) × (sums_greatest t w bases ≡ 2 ^ t - 1)
  unfolding sums_least sums_greatest
  sums_lost over = (ap (λ (b : Bool). if b then fold min (2 ^ t - 1) bases else 0) (le-ltb (sums_most t w bases) (2 ^ t) over), omega (arith, over))

  -- a base and so many digits
  between : (base n m x : ℕ) → fold min (2 ^ t - 1) bases ≤ base → base ≤ fold max 0 bases → n ≤ t → m ≤ n * (2 ^ w - 1) → x ≡ (base + m) % 2 ^ t
      → (sums_least t w bases ≤ x) × (x ≤ sums_greatest t w bases)
  between base n m x least greatest few most is =
      let all = mul-le-mul_right (2 ^ w - 1) few in
      let small : (base + m) % 2 ^ t < 2 ^ t = mod_below (base + m) (2 ^ t) (pow_pos t) in
      elim (cases_lt (sums_most t w bases) (2 ^ t)) [
        | inl fits ↦
            let kept = sums_kept fits in
            let below : base + m < 2 ^ t = omega (arith, fits, greatest, most, all) in
            let same = mod-eq_of_lt below in
            (omega (arith, kept.0, least, is, same), omega (arith, kept.1, greatest, most, all, is, same))
        | inr over ↦
            let lost = sums_lost over in
            (omega (arith, lost.0), omega (arith, lost.1, is, small))
      ]

-- all values lie between the bounds
module _ (t lanes w : ℕ) (bytes : List ℕ) (layout : IsLayout t lanes) where
  abbrev before : List ℕ
  before = take 128 bytes

  abbrev packed : List ℕ
  packed = drop 128 bytes

  abbrev bases : List ℕ
  bases = words_in t lanes before

  digit_most : (p : ℕ) → slice_index (digits t lanes w (words_in t (lanes * w) packed)) p ≤ 2 ^ w - 1
  digit_most p = elim (cases_lt p 1024) [
    | inl inside ↦ omega (arith, digit_is t lanes w 0 packed p inside, digit_below t lanes w (words_in t (lanes * w) packed) p)
    | inr past ↦
        omega (arith, get_or_past (digits t lanes w (words_in t (lanes * w) packed)) p 0 (omega (arith, count_digits t lanes w 0 packed, past)))
  ]

  each_between : (i : ℕ) → i < 1024 → (sums_least t w bases ≤ slice_index (sums_values t lanes w bytes) i)
      × (slice_index (sums_values t lanes w bytes) i ≤ sums_greatest t w bases)
  unfolding sums_values
  each_between i inside =
      let p = place (i % 64) (i / 64) in
      let lane = lane_at lanes p in
      let rows = row_at lanes p + 1 in
      let some = some_lanes t lanes layout in
      let in_lanes : lane < lanes = mod_below p lanes some in
      let in_rows = row_at-lt t lanes p layout (original_index-lt i inside) in
      let count = length-map-range_with_len (λ k. number_at (t / 8) before (t / 8 * k)) 0 lanes in
      let here : lane < length bases = omega (arith, in_lanes, count) in
      between t w bases (slice_index bases lane) rows (sum (map (row_digit t lanes w before packed lane) (range_with_len 0 rows)))
      (slice_index (sums_values t lanes w bytes) i)
      (fold_min_each (2 ^ t - 1) bases lane here) (fold_max_each 0 bases lane here) (omega (arith, in_rows))
      (sum_below (row_digit t lanes w before packed lane) (2 ^ w - 1) rows (λ row. digit_most (place row lane)))
      (sums_are t lanes w before packed i inside)

  count_sums : length (sums_values t lanes w bytes) ≡ 1024
  unfolding sums_values untransposed
  count_sums =
      let sums = undeltas t lanes bases (digits t lanes w (words_in t (lanes * w) packed)) in
      length-map-range_with_len (λ j. slice_index sums (original_index j)) 0 1024

  pub least_of_sums : All (λ x. sums_least t w bases ≤ x) (sums_values t lanes w bytes)
  least_of_sums = All-from_get_or (λ x. sums_least t w bases ≤ x) (sums_values t lanes w bytes) 0 (λ i below.
      (each_between i (omega (arith, below, count_sums))).0)

  pub greatest_of_sums : All (λ x. x ≤ sums_greatest t w bases) (sums_values t lanes w bytes)
  greatest_of_sums = All-from_get_or (λ x. x ≤ sums_greatest t w bases) (sums_values t lanes w bytes) 0 (λ i below.
      (each_between i (omega (arith, below, count_sums))).1)

-- What the bounds are, by the greatest word, the greatest digit and what is left above the greatest base.
module _ (t w none one all low digit g above room : ℕ) (bases : List ℕ) (some : 0 < t) (is_none : none ≡ 0) (is_one : one ≡ 1) (of_all : all ≡ (none + (2 ^ t - one)) % 2 ^ t)
    (of_low : low ≡ all % 2 ^ w) (of_digit : digit ≡ low) (of_g : g ≡ fold max 0 bases) (small : g < 2 ^ t) (of_above : above ≡ (all + (2 ^ t - g)) % 2 ^ t) (of_room : room ≡ above) (narrow : w ≤ t) where
  all_is : all ≡ 2 ^ t - 1
  all_is = word_is t none one all is_none is_one of_all

  digit_value : digit ≡ 2 ^ w - 1
  digit_value = of_digit ∙ of_low ∙ ap (λ n. n % 2 ^ w) all_is ∙ low_ones t w narrow

  room_is : room ≡ 2 ^ t - 1 - g
  room_is =
      let more : g ≤ all = omega (arith, all_is, small) in
      let less : all < 2 ^ t = omega (arith, all_is, small) in
      of_room ∙ of_above ∙ difference_is t all g less more ∙ ap (λ n. n - g) all_is

  most_is : sums_most t w bases ≡ g + digit * t
  most_is = omega (arith, digit_value, of_g, mul_comm t (2 ^ w - 1), ap (λ n. n * t) digit_value)

  -- t greatest digits have room
  sum_small : digit ≤ room / t → digit * t ≤ room
  sum_small fits = (le-div_iff_mul-le some).0 fits

  pub bounds_stay : (least sum result : ℕ) → digit ≤ room / t → least ≡ fold min (2 ^ t - 1) bases → sum ≡ digit * t → result ≡ (g + sum) % 2 ^ t
      → (least ≡ sums_least t w bases) × (result ≡ sums_greatest t w bases)
  bounds_stay least sum result fits of_least is_sum is =
      let below : g + sum < 2 ^ t = omega (arith, sum_small fits, room_is, small, is_sum) in
      let same : g + sum ≡ sums_most t w bases = omega (arith, most_is, is_sum) in
      let kept = sums_kept t w bases (omega (arith, below, same)) in
      (of_least ∙ sym kept.0, is ∙ mod-eq_of_lt below ∙ same ∙ sym kept.1)

  -- and if they have none
  pub bounds_leave : room / t < digit → (none ≡ sums_least t w bases) × (all ≡ sums_greatest t w bases)
  bounds_leave more =
      let over : room < digit * t = elim (cases_lt room (digit * t)) [
        | inl less ↦ less
        | inr fits ↦ absurd (omega (arith, (le-div_iff_mul-le some).1 fits, more))
      ] in
      let lost = sums_lost t w bases (omega (arith, most_is, over, room_is, small)) in
      (is_none ∙ sym lost.0, all_is ∙ sym lost.1)
