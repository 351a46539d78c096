-- The values of a frame, one by one.
use Rattle.std.proofs.Common.{◌≡◌, ℕ, ◌+◌, ◌-◌, ◌*◌, ◌/◌, ◌%◌, ◌^◌, ◌<◌, ◌≤◌, ◌∙◌, List, [], ◌∷◌, zero, suc, ap, arith, get_or, inl, inr, length, max, min, subst, sym}
use Rattle.std.proofs.Math.Nat.{mod-eq_of_lt, pow-le-pow_right}
use Rattle.std.proofs.Math.Pow.{ones_split}
use Rattle.std.proofs.lemmas.Bool.{cases_lt}
use Rattle.std.proofs.lemmas.List.{get_or-map, length-map}
use Rattle.std.proofs.lemmas.List.Elements.{All-from_get_or}
use Rattle.std.proofs.lemmas.List.FromFn.{get_or-map-range_with_len, length-map-range_with_len}
use Rattle.std.proofs.lemmas.Nat.{mod-mul-add, mod_below, pow_pos}
use Rattle.std.specs.List.{All, slice_index}
use Rattle.std.specs.Prelude.{fold}
use Rattle.fastlanes.specs.Digits.{digit, digits, lane_number}
use Rattle.fastlanes.specs.Frame.{unframed, word_sum}
use Rattle.fastlanes.specs.Order.{lane_at, row_at}
use Rattle.fastlanes_pages.specs.ColumnValues.{frame_values, words_in}
use Rattle.fastlanes_pages.specs.Heads.{frame_greatest, frame_least, frame_numbers}

-- a digit has at most as many bits
pub digit_below : (t lanes width : ℕ) (words : List ℕ) (i : ℕ) → digit t lanes width words i < 2 ^ width
unfolding digit
digit_below t lanes width words i = mod_below (lane_number t lanes width (lane_at lanes i) words / 2 ^ (width * row_at lanes i)) (2 ^ width) (pow_pos width)

-- the minimum of numbers is at most the first one and each of them, and it is at least what all are
fold_min_first : (a : ℕ) (xs : List ℕ) → fold min a xs ≤ a
fold_min_first a [] = omega arith
fold_min_first a (x ∷ xs) = omega (arith, fold_min_first (min a x) xs)

pub fold_min_each : (a : ℕ) (xs : List ℕ) (i : ℕ) → i < length xs → fold min a xs ≤ get_or xs i 0
fold_min_each a [] i below = absurd (omega (arith, below))
fold_min_each a (x ∷ xs) zero below = omega (arith, fold_min_first (min a x) xs)
fold_min_each a (x ∷ xs) (suc i) below = fold_min_each (min a x) xs i (omega (arith, below))

fold_min_least : (m a : ℕ) (xs : List ℕ) → m ≤ a → ((i : ℕ) → i < length xs → m ≤ get_or xs i 0) → m ≤ fold min a xs
fold_min_least m a [] first each = first
fold_min_least m a (x ∷ xs) first each =
    let here : m ≤ x = each 0 (omega arith) in
    fold_min_least m (min a x) xs (omega (arith, first, here)) (λ i below. each (suc i) (omega (arith, below)))

-- and so is the maximum
fold_max_first : (a : ℕ) (xs : List ℕ) → a ≤ fold max a xs
fold_max_first a [] = omega arith
fold_max_first a (x ∷ xs) = omega (arith, fold_max_first (max a x) xs)

pub fold_max_each : (a : ℕ) (xs : List ℕ) (i : ℕ) → i < length xs → get_or xs i 0 ≤ fold max a xs
fold_max_each a [] i below = absurd (omega (arith, below))
fold_max_each a (x ∷ xs) zero below = omega (arith, fold_max_first (max a x) xs)
fold_max_each a (x ∷ xs) (suc i) below = fold_max_each (max a x) xs i (omega (arith, below))

fold_max_most : (m a : ℕ) (xs : List ℕ) → a ≤ m → ((i : ℕ) → i < length xs → get_or xs i 0 ≤ m) → fold max a xs ≤ m
fold_max_most m a [] first each = first
fold_max_most m a (x ∷ xs) first each =
    let here : x ≤ m = each 0 (omega arith) in
    fold_max_most m (max a x) xs (omega (arith, first, here)) (λ i below. each (suc i) (omega (arith, below)))

module _ (t w r : ℕ) where
  number_is : (d : ℕ) → d < 2 ^ w → get_or (frame_numbers t w r) d 0 ≡ (d + r) % 2 ^ t
  number_is d below = get_or-map-range_with_len (λ x. word_sum t x r) 0 (2 ^ w) d d 0 below (omega arith)

  many : length (frame_numbers t w r) ≡ 2 ^ w
  many = length-map-range_with_len (λ x. word_sum t x r) 0 (2 ^ w)

  -- the minimum and the maximum of the sums of a reference and each digit are at most and at least each sum
  pub least_each : (d : ℕ) → d < 2 ^ w → frame_least t w r ≤ (d + r) % 2 ^ t
  unfolding frame_least
  least_each d below = omega (arith, number_is d below, fold_min_each (2 ^ t - 1) (frame_numbers t w r) d (omega (arith, many, below)))

  pub greatest_each : (d : ℕ) → d < 2 ^ w → (d + r) % 2 ^ t ≤ frame_greatest t w r
  unfolding frame_greatest
  greatest_each d below = omega (arith, number_is d below, fold_max_each 0 (frame_numbers t w r) d (omega (arith, many, below)))

  least_from : (m : ℕ) → m < 2 ^ t → ((d : ℕ) → d < 2 ^ w → m ≤ (d + r) % 2 ^ t) → m ≤ frame_least t w r
  unfolding frame_least
  least_from m small each = fold_min_least m (2 ^ t - 1) (frame_numbers t w r) (omega (arith, small)) (λ d inside.
      let below : d < 2 ^ w = omega (arith, inside, many) in
      omega (arith, number_is d below, each d below))

  greatest_from : (m : ℕ) → ((d : ℕ) → d < 2 ^ w → (d + r) % 2 ^ t ≤ m) → frame_greatest t w r ≤ m
  unfolding frame_greatest
  greatest_from m each = fold_max_most m 0 (frame_numbers t w r) (omega arith) (λ d inside.
      let below : d < 2 ^ w = omega (arith, inside, many) in
      omega (arith, number_is d below, each d below))

  -- the maximum is an element
  pub greatest_most : frame_greatest t w r ≤ 2 ^ t - 1
  greatest_most = greatest_from (2 ^ t - 1) (λ d below. let small = mod_below (d + r) (2 ^ t) (pow_pos t) in omega (arith, small))

  -- if no sum comes to 2 ^ t, they are the first and the last sum
  module _ (room : r + 2 ^ w ≤ 2 ^ t) where
    kept : (d : ℕ) → d < 2 ^ w → (d + r) % 2 ^ t ≡ d + r
    kept d below = let fits : d + r < 2 ^ t = omega (arith, below, room) in mod-eq_of_lt fits

    pub least_kept : frame_least t w r ≡ r
    least_kept =
        let some : 0 < 2 ^ w = pow_pos w in
        let most = least_each 0 some in
        let least = least_from r (omega (arith, some, room)) (λ d below. omega (arith, kept d below)) in
        omega (arith, most, least, kept 0 some)

    pub greatest_kept : frame_greatest t w r ≡ r + (2 ^ w - 1)
    greatest_kept =
        let some : 0 < 2 ^ w = pow_pos w in
        let last : 2 ^ w - 1 < 2 ^ w = omega (arith, some) in
        let least = greatest_each (2 ^ w - 1) last in
        let most = greatest_from (r + (2 ^ w - 1)) (λ d below. omega (arith, kept d below, below)) in
        omega (arith, most, least, kept (2 ^ w - 1) last)

  -- else they are 0 and the greatest element
  module _ (small : r < 2 ^ t) (lost : 2 ^ t < r + 2 ^ w) where
    pub least_lost : frame_least t w r ≡ 0
    least_lost =
        let below : 2 ^ t - r < 2 ^ w = omega (arith, small, lost) in
        let sum : 2 ^ t - r + r ≡ 1 * 2 ^ t + 0 = omega (arith, small) in
        let zero : (2 ^ t - r + r) % 2 ^ t ≡ 0 = ap (λ n. n % 2 ^ t) sum ∙ mod-mul-add 1 (2 ^ t) 0 (pow_pos t) in
        omega (arith, least_each (2 ^ t - r) below, zero)

    pub greatest_lost : frame_greatest t w r ≡ 2 ^ t - 1
    greatest_lost =
        let some : 0 < 2 ^ t = pow_pos t in
        let below : 2 ^ t - 1 - r < 2 ^ w = omega (arith, small, lost) in
        let sum : 2 ^ t - 1 - r + r ≡ 2 ^ t - 1 = omega (arith, small) in
        let less : 2 ^ t - 1 < 2 ^ t = omega (arith, some) in
        let last : (2 ^ t - 1 - r + r) % 2 ^ t ≡ 2 ^ t - 1 = ap (λ n. n % 2 ^ t) sum ∙ mod-eq_of_lt less in
        omega (arith, greatest_each (2 ^ t - 1 - r) below, last, greatest_most)

module _ (t lanes width reference : ℕ) (bytes : List ℕ) where
  -- the digits are those of 1024 places
  pub count_digits : length (digits t lanes width (words_in t (lanes * width) bytes)) ≡ 1024
  unfolding digits
  count_digits = length-map-range_with_len (digit t lanes width (words_in t (lanes * width) bytes)) 0 1024

  pub digit_is : (i : ℕ) → i < 1024 → slice_index (digits t lanes width (words_in t (lanes * width) bytes)) i ≡ digit t lanes width (words_in t (lanes * width) bytes) i
  unfolding digits
  digit_is i inside = get_or-map-range_with_len (digit t lanes width (words_in t (lanes * width) bytes)) 0 1024 i i 0 inside (omega arith)

  -- a frame has 1024 values
  pub count_values : length (frame_values t lanes width reference bytes) ≡ 1024
  unfolding frame_values unframed
  count_values = length-map (digits t lanes width (words_in t (lanes * width) bytes)) (λ x. word_sum t x reference) ∙ count_digits

  -- each of them is a digit and the reference
  pub value_is : (i : ℕ) → i < 1024
      → slice_index (frame_values t lanes width reference bytes) i ≡ (digit t lanes width (words_in t (lanes * width) bytes) i + reference) % 2 ^ t
  unfolding frame_values unframed
  value_is i inside =
      get_or-map (λ x. word_sum t x reference) (digits t lanes width (words_in t (lanes * width) bytes)) i 0 0 (omega (arith, count_digits))
      ∙ ap (λ x. (x + reference) % 2 ^ t) (digit_is i inside)

  digit_small : (i : ℕ) → digit t lanes width (words_in t (lanes * width) bytes) i < 2 ^ width
  digit_small i = digit_below t lanes width (words_in t (lanes * width) bytes) i

  -- where the sum of the reference and the greatest digit is a word, so are the others
  pub sum_is : (i : ℕ) → i < 1024 → reference + 2 ^ width ≤ 2 ^ t
      → slice_index (frame_values t lanes width reference bytes) i ≡ digit t lanes width (words_in t (lanes * width) bytes) i + reference
  sum_is i inside room =
      let fits : digit t lanes width (words_in t (lanes * width) bytes) i + reference < 2 ^ t = omega (arith, digit_small i) in
      value_is i inside ∙ mod-eq_of_lt fits

  -- all values lie between the bounds of the frame
  pub least_bound : All (λ x. frame_least t width reference ≤ x) (frame_values t lanes width reference bytes)
  least_bound = All-from_get_or (λ x. frame_least t width reference ≤ x) (frame_values t lanes width reference bytes) 0 (λ i below.
      omega (arith, least_each t width reference _ (digit_small i), value_is i (omega (arith, below, count_values))))

  pub greatest_bound : All (λ x. x ≤ frame_greatest t width reference) (frame_values t lanes width reference bytes)
  greatest_bound = All-from_get_or (λ x. x ≤ frame_greatest t width reference) (frame_values t lanes width reference bytes) 0 (λ i below.
      omega (arith, greatest_each t width reference _ (digit_small i), value_is i (omega (arith, below, count_values))))

-- The numbers between which the values are.

-- the greatest word, and the greatest digit
pub all_ones : (t : ℕ) → (0 + (2 ^ t - 1)) % 2 ^ t ≡ 2 ^ t - 1
all_ones t =
    let some : 0 < 2 ^ t = pow_pos t in
    let same : 0 + (2 ^ t - 1) ≡ 2 ^ t - 1 = omega arith in
    let less : 2 ^ t - 1 < 2 ^ t = omega arith in
    ap (λ x. x % 2 ^ t) same ∙ mod-eq_of_lt less

pub low_ones : (t w : ℕ) → w ≤ t → (2 ^ t - 1) % 2 ^ w ≡ 2 ^ w - 1
low_ones t w narrow =
    let some : 0 < 2 ^ w = pow_pos w in
    let less : 2 ^ w - 1 < 2 ^ w = omega arith in
    let parts : t ≡ t - w + w = omega arith in
    ap (λ n. (2 ^ n - 1) % 2 ^ w) parts ∙ ap (λ n. n % 2 ^ w) (ones_split (t - w) w) ∙ mod-mul-add (2 ^ (t - w) - 1) (2 ^ w) (2 ^ w - 1) less

-- a sum that is not less than the reference has not come to 2 ^ t
pub sum_kept : (t w r : ℕ) → w ≤ t → r < 2 ^ t → r ≤ (r + (2 ^ w - 1)) % 2 ^ t → r + 2 ^ w ≤ 2 ^ t
sum_kept t w r narrow small more =
    let some : 0 < 2 ^ w = pow_pos w in
    let less : 2 ^ w ≤ 2 ^ t = pow-le-pow_right (omega arith) narrow in
    elim (cases_lt (r + (2 ^ w - 1)) (2 ^ t)) [
      | inl fits ↦ omega arith
      | inr wraps ↦
          let rest : r + (2 ^ w - 1) ≡ 1 * 2 ^ t + (r + (2 ^ w - 1) - 2 ^ t) = omega arith in
          let low : r + (2 ^ w - 1) - 2 ^ t < 2 ^ t = omega arith in
          let is : (r + (2 ^ w - 1)) % 2 ^ t ≡ r + (2 ^ w - 1) - 2 ^ t = ap (λ n. n % 2 ^ t) rest ∙ mod-mul-add 1 (2 ^ t) (r + (2 ^ w - 1) - 2 ^ t) low in
          absurd (omega (arith, is))
    ]

-- the greatest word is what comes before 0
pub word_is : (t none one all : ℕ) → none ≡ 0 → one ≡ 1 → all ≡ (none + (2 ^ t - one)) % 2 ^ t → all ≡ 2 ^ t - 1
word_is t none one all is_none is_one of_all = of_all ∙ ap (λ n. (n + (2 ^ t - one)) % 2 ^ t) is_none ∙ ap (λ n. (0 + (2 ^ t - n)) % 2 ^ t) is_one ∙ all_ones t

-- what a head's bounds are, by the greatest word, the greatest digit and the sum with it
module _ (t w r none one all low sum : ℕ) (is_none : none ≡ 0) (is_one : one ≡ 1) (of_all : all ≡ (none + (2 ^ t - one)) % 2 ^ t) (of_low : low ≡ all % 2 ^ w)
    (of_sum : sum ≡ (r + low) % 2 ^ t) (narrow : w ≤ t) where
  all_is : all ≡ 2 ^ t - 1
  all_is = word_is t none one all is_none is_one of_all

  sum_of : sum ≡ (r + (2 ^ w - 1)) % 2 ^ t
  sum_of = of_sum ∙ ap (λ n. (r + n) % 2 ^ t) (of_low ∙ ap (λ n. n % 2 ^ w) all_is ∙ low_ones t w narrow)

  -- a sum that is not less than the reference
  pub bounds_kept : r < 2 ^ t → r ≤ sum → (r + 2 ^ w ≤ 2 ^ t) × (r ≡ frame_least t w r) × (sum ≡ frame_greatest t w r)
  bounds_kept small more =
      let room : r + 2 ^ w ≤ 2 ^ t = sum_kept t w r narrow small (omega (arith, sum_of, more)) in
      let some : 0 < 2 ^ w = pow_pos w in
      let fits : r + (2 ^ w - 1) < 2 ^ t = omega arith in
      (room, sym (least_kept t w r room), sum_of ∙ mod-eq_of_lt fits ∙ sym (greatest_kept t w r room))

  -- and one that is
  pub bounds_lost : r < 2 ^ t → sum < r → (none ≡ frame_least t w r) × (all ≡ frame_greatest t w r)
  bounds_lost small less =
      let some : 0 < 2 ^ w = pow_pos w in
      let lost : 2 ^ t < r + 2 ^ w = elim (cases_lt (2 ^ t) (r + 2 ^ w)) [
        | inl is ↦ is
        | inr room ↦ (
            let fits : r + (2 ^ w - 1) < 2 ^ t = omega arith in
            absurd (omega (arith, sum_of, less, mod-eq_of_lt fits))
            )
      ] in
      (is_none ∙ sym (least_lost t w r small lost), all_is ∙ sym (greatest_lost t w r small lost))

-- a digit that is its sum with 0
same_beside_none : (t d r x : ℕ) → r ≡ 0 → d < 2 ^ t → (d + r) % 2 ^ t ≡ x → d ≡ x
same_beside_none t d r x none small is =
    let same : d + r ≡ d = omega arith in
    sym (mod-eq_of_lt small) ∙ ap (λ n. n % 2 ^ t) (sym same) ∙ is

-- a digit of the full width is the value that it was packed from beside 0
pub whole_digit : (t lanes width full r x : ℕ) (words : List ℕ) (i : ℕ) → width ≡ t → full ≡ t → r ≡ 0
    → ((x + (2 ^ t - r)) % 2 ^ t < 2 ^ width → (digit t lanes width words i + r) % 2 ^ t ≡ x) → digit t lanes full words i ≡ x
whole_digit t lanes width full r x words i is all none comes =
    let near : (x + (2 ^ t - r)) % 2 ^ t < 2 ^ width = rw is (mod_below (x + (2 ^ t - r)) (2 ^ t) (pow_pos t)) in
    let small : digit t lanes width words i < 2 ^ t = subst (λ (w : ℕ). digit t lanes width words i < 2 ^ w) is (digit_below t lanes width words i) in
    ap (λ w. digit t lanes w words i) (all ∙ sym is) ∙ same_beside_none t (digit t lanes width words i) r x none small (comes near)

-- what a value is above a reference
pub difference_is : (t x r : ℕ) → x < 2 ^ t → r ≤ x → (x + (2 ^ t - r)) % 2 ^ t ≡ x - r
difference_is t x r small above =
    let parts : x + (2 ^ t - r) ≡ 1 * 2 ^ t + (x - r) = omega arith in
    let less : x - r < 2 ^ t = omega arith in
    ap (λ n. n % 2 ^ t) parts ∙ mod-mul-add 1 (2 ^ t) (x - r) less
