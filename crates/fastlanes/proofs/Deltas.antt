-- Differences along the lanes of a block, and what they add up to.
use Rattle.std.proofs.Common.{◌≡◌, ◌↔◌, ℕ, ◌+◌, ◌%◌, ◌^◌, ◌<◌, ◌≤◌, zero, suc, List, length, map, sum, refl, ap, sym, subst, ◌∙◌, arith, add-one, zero-add, lit<, lt_of_lt_of_le}
use Rattle.std.proofs.Math.Nat.{mod-add-mod, mod-eq_of_lt, pow-le-pow_right}
use Rattle.std.proofs.lemmas.List.{ext_get_or, get_or-map, length-map}
use Rattle.std.proofs.lemmas.List.Elements.{All-from_get_or, All-get_or}
use Rattle.std.proofs.lemmas.List.FromFn.{get_or-map-range_with_len, length-map-range_with_len, sum_by-map-range_with_len_more}
use Rattle.std.proofs.lemmas.Nat.{mod_below, pow_pos}
use Rattle.std.specs.List.{All, range_with_len, slice_index}
use Rattle.fastlanes_base.specs.Digits.{digits, row_digit}
use Rattle.fastlanes_base.specs.Element.{IsLayout}
use Rattle.fastlanes_base.specs.Order.{lane_at, place, row_at}
use Rattle.fastlanes_base.proofs.Places.{lane_at-place, place-lt, row_at-place}
use Rattle.fastlanes_rows.specs.Block.{HasValues, row_value}
use Rattle.fastlanes_packing.specs.Packing.{low_bits}
use Rattle.fastlanes.specs.Delta.{deltas, row_before, row_delta, row_undelta, undeltas}
use Rattle.fastlanes.specs.Frame.{word_difference, word_sum}
use Rattle.fastlanes.proofs.Framing.{slice_index-digits}
use Rattle.fastlanes_rows.proofs.RowDigits.{digit-place}
use Rattle.fastlanes_packing.proofs.Unpacking.{values_of_places}
use Rattle.fastlanes.proofs.Wrapping.{difference-sum, sum-difference, word_sum-comm}

-- what a row adds up to, from what stands before it
row_undelta-step : (t : ℕ) (base : List ℕ) (at : ℕ → ℕ → ℕ) (lane row : ℕ) → row_undelta t base at lane row ≡ word_sum t (row_before base (row_undelta t base at) lane row) (at lane row)
row_undelta-step t base at lane zero = ap (word_sum t (slice_index base lane)) (zero-add (at lane 0))
row_undelta-step t base at lane (suc row) =
    let more : sum (map (at lane) (range_with_len 0 (suc row + 1))) ≡ sum (map (at lane) (range_with_len 0 (row + 1))) + at lane (suc row) =
    rw (add-one row) (sum_by-map-range_with_len_more (λ x. x) (at lane) 0 (suc row) (suc row) (zero-add (suc row)))
    in
    let parts : slice_index base lane + (sum (map (at lane) (range_with_len 0 (row + 1))) + at lane (suc row)) ≡ slice_index base lane + sum (map (at lane) (range_with_len 0 (row + 1))) + at lane (suc row) = omega arith in
    ap (word_sum t (slice_index base lane)) more
    ∙ ap (λ (n : ℕ). n % 2 ^ t) parts
    ∙ sym (mod-add-mod (slice_index base lane + sum (map (at lane) (range_with_len 0 (row + 1)))) (2 ^ t) (at lane (suc row)))

pub row_undelta-next : (t : ℕ) (base : List ℕ) (at : ℕ → ℕ → ℕ) (lane row before value sum : ℕ) → before ≡ row_before base (row_undelta t base at) lane row
    → value ≡ at lane row → sum ≡ word_sum t before value → sum ≡ row_undelta t base at lane row
row_undelta-next t base at lane row before value sum told is added = added ∙ rw (told, is) (sym (row_undelta-step t base at lane row))

-- rows that are the same add up to the same
row_undelta-same : (t : ℕ) (base : List ℕ) (at same : ℕ → ℕ → ℕ) (lane row : ℕ) → ((r : ℕ) → r ≤ row → at lane r ≡ same lane r)
    → row_undelta t base at lane row ≡ row_undelta t base same lane row
row_undelta-same t base at same lane zero each =
    row_undelta-next t base same lane zero _ _ _ refl (each 0 (omega arith)) (row_undelta-step t base at lane zero)
row_undelta-same t base at same lane (suc row) each =
    row_undelta-next t base same lane (suc row) _ _ _ (row_undelta-same t base at same lane row (λ r le. each r (omega (arith, le))))
    (each (suc row) (omega arith)) (row_undelta-step t base at lane (suc row))

-- what stands before a row is a word
row_before-lt : (t : ℕ) (base : List ℕ) (at : ℕ → ℕ → ℕ) (lane row : ℕ) → slice_index base lane < 2 ^ t → row_before base (row_undelta t base at) lane row < 2 ^ t
row_before-lt t base at lane zero below = below
row_before-lt t base at lane (suc row) below = mod_below _ (2 ^ t) (pow_pos t)

-- what stands before a row of sums
row_before-sums : (t : ℕ) (base : List ℕ) (at d : ℕ → ℕ → ℕ) (lane row : ℕ) → ((r : ℕ) → r ≤ row → at lane r ≡ row_undelta t base d lane r)
    → row_before base at lane row ≡ row_before base (row_undelta t base d) lane row
row_before-sums t base at d lane zero sums = refl
row_before-sums t base at d lane (suc row) sums = sums row (omega arith)

-- the differences of the sums
row_delta-sums : (t : ℕ) (base : List ℕ) (at d : ℕ → ℕ → ℕ) (lane row : ℕ) → slice_index base lane < 2 ^ t → d lane row < 2 ^ t
    → ((r : ℕ) → r ≤ row → at lane r ≡ row_undelta t base d lane r) → row_delta t base at lane row ≡ d lane row
row_delta-sums t base at d lane row below small sums =
    let before = row_before base (row_undelta t base d) lane row in
    let is : at lane row ≡ word_sum t (d lane row) before = sums row (omega arith) ∙ row_undelta-step t base d lane row ∙ word_sum-comm t before (d lane row) in
    ap (λ (x : ℕ). word_difference t x (row_before base at lane row)) is
    ∙ ap (word_difference t (word_sum t (d lane row) before)) (row_before-sums t base at d lane row sums)
    ∙ difference-sum t (d lane row) before small (row_before-lt t base d lane row below)

-- the sums of the differences
row_undelta-differences : (t n : ℕ) (base : List ℕ) (at d : ℕ → ℕ → ℕ) (lane : ℕ) → slice_index base lane < 2 ^ t → ((r : ℕ) → r < n → at lane r < 2 ^ t)
    → ((r : ℕ) → r < n → d lane r ≡ row_delta t base at lane r) → (row : ℕ) → row < n → row_undelta t base d lane row ≡ at lane row
row_undelta-differences t n base at d lane below small differences zero h =
    row_undelta-step t base d lane 0
    ∙ ap (word_sum t (slice_index base lane)) (differences 0 h)
    ∙ word_sum-comm t (slice_index base lane) (row_delta t base at lane 0)
    ∙ sum-difference t (at lane 0) (slice_index base lane) (small 0 h) below
row_undelta-differences t n base at d lane below small differences (suc row) h =
    let row_in : row < n = omega arith in
    row_undelta-step t base d lane (suc row)
    ∙ ap (word_sum t (row_undelta t base d lane row)) (differences (suc row) h)
    ∙ ap (λ (x : ℕ). word_sum t x (row_delta t base at lane (suc row))) (row_undelta-differences t n base at d lane below small differences row row_in)
    ∙ word_sum-comm t (at lane row) (row_delta t base at lane (suc row))
    ∙ sum-difference t (at lane (suc row)) (at lane row) (small (suc row) h) (small row row_in)

-- a row of a block that is given by its rows
row_value-places : (t lanes : ℕ) (at : ℕ → ℕ → ℕ) (lane row : ℕ) → IsLayout t lanes → lane < lanes → row < t
    → row_value (map (λ i. at (lane_at lanes i) (row_at lanes i)) (range_with_len 0 1024)) lane row ≡ at lane row
row_value-places t lanes at lane row layout in_lanes in_rows =
    get_or-map-range_with_len (λ i. at (lane_at lanes i) (row_at lanes i)) 0 1024 (place row lane) (place row lane) 0 (place-lt t lanes row lane layout in_rows in_lanes) (zero-add (place row lane))
    ∙ ap (λ (l : ℕ). at l (row_at lanes (place row lane))) (lane_at-place t lanes row lane layout in_rows in_lanes)
    ∙ ap (at lane) (row_at-place t lanes row lane layout in_rows in_lanes)

row_value-deltas : (t lanes : ℕ) (base v : List ℕ) (lane row : ℕ) → IsLayout t lanes → lane < lanes → row < t
    → row_value (deltas t lanes base v) lane row ≡ row_delta t base (row_value v) lane row
unfolding deltas
row_value-deltas t lanes base v lane row layout in_lanes in_rows = row_value-places t lanes (row_delta t base (row_value v)) lane row layout in_lanes in_rows

row_value-undeltas : (t lanes : ℕ) (base d : List ℕ) (lane row : ℕ) → IsLayout t lanes → lane < lanes → row < t
    → row_value (undeltas t lanes base d) lane row ≡ row_undelta t base (row_value d) lane row
unfolding undeltas
row_value-undeltas t lanes base d lane row layout in_lanes in_rows = row_value-places t lanes (row_undelta t base (row_value d)) lane row layout in_lanes in_rows

length-deltas : (t lanes : ℕ) (base v : List ℕ) → length (deltas t lanes base v) ≡ 1024
unfolding deltas
length-deltas t lanes base v = length-map-range_with_len (λ i. row_delta t base (row_value v) (lane_at lanes i) (row_at lanes i)) 0 1024

-- a row of the digits
pub row_value-digits : (t lanes w : ℕ) (p : List ℕ) (lane row : ℕ) → IsLayout t lanes → lane < lanes → row < t
    → row_value (digits t lanes w p) lane row ≡ row_digit t lanes w p lane row
row_value-digits t lanes w p lane row layout in_lanes in_rows =
    slice_index-digits t lanes w p (place row lane) (place-lt t lanes row lane layout in_rows in_lanes)
    ∙ digit-place t lanes w lane row p layout in_rows in_lanes

-- the differences of all rows are those at all places
pub deltas_of_rows : (t lanes : ℕ) (base v u : List ℕ) → IsLayout t lanes → HasValues t lanes (row_delta t base (row_value v)) u → u ≡ deltas t lanes base v
unfolding deltas
deltas_of_rows t lanes base v u layout has = values_of_places t lanes (row_delta t base (row_value v)) u layout has

-- and what they add up to
pub undeltas_of_rows : (t lanes : ℕ) (base d u : List ℕ) → IsLayout t lanes → HasValues t lanes (row_undelta t base (row_value d)) u → u ≡ undeltas t lanes base d
unfolding undeltas
undeltas_of_rows t lanes base d u layout has = values_of_places t lanes (row_undelta t base (row_value d)) u layout has

-- and what the digits of all rows add up to
pub undeltas_of_digits : (t lanes w : ℕ) (base p u : List ℕ) → IsLayout t lanes → HasValues t lanes (row_undelta t base (row_digit t lanes w p)) u
    → u ≡ undeltas t lanes base (digits t lanes w p)
undeltas_of_digits t lanes w base p u layout has = undeltas_of_rows t lanes base (digits t lanes w p) u layout (record {
  long = has.long;
  each = λ lane row in_lanes in_rows. has.each lane row in_lanes in_rows
      ∙ row_undelta-same t base (row_digit t lanes w p) (row_value (digits t lanes w p)) lane row
      (λ r le. let r_in : r < t = omega arith in sym (row_value-digits t lanes w p lane r layout in_lanes r_in));
})

-- a block of words, with a base for each lane
pub record AreWords (t lanes : ℕ) (base v : List ℕ) : Type 0 where
  pub layout : IsLayout t lanes
  pub bases : length base ≡ lanes
  pub small_bases : All (λ x. x < 2 ^ t) base
  pub long : length v ≡ 1024
  pub small : All (λ x. x < 2 ^ t) v

-- the numbers of elements and of bases
pub words_of : {E : Type 0} (number : E → ℕ) (t lanes : ℕ) (base v : List E) → IsLayout t lanes → length base ≡ lanes → All (λ x. x < 2 ^ t) (map number base)
    → length v ≡ 1024 → All (λ x. x < 2 ^ t) (map number v) → AreWords t lanes (map number base) (map number v)
words_of number t lanes base v layout bases small_bases long small = record {
  layout = layout;
  bases = rw length-map bases;
  small_bases = small_bases;
  long = rw length-map long;
  small = small;
}

-- a row of the block, and the base of a lane
row_value-lt : (t lanes : ℕ) (base v : List ℕ) (lane row : ℕ) → AreWords t lanes base v → lane < lanes → row < t → row_value v lane row < 2 ^ t
row_value-lt t lanes base v lane row words in_lanes in_rows =
    let inside : place row lane < length v = rw words.long (place-lt t lanes row lane words.layout in_rows in_lanes) in
    All-get_or (λ x. x < 2 ^ t) v (place row lane) 0 inside words.small

base-lt : (t lanes : ℕ) (base v : List ℕ) (lane : ℕ) → AreWords t lanes base v → lane < lanes → slice_index base lane < 2 ^ t
base-lt t lanes base v lane words in_lanes =
    let inside : lane < length base = rw words.bases in_lanes in
    All-get_or (λ x. x < 2 ^ t) base lane 0 inside words.small_bases

-- the differences of what differences add up to
pub deltas-undeltas : (t lanes : ℕ) (base d : List ℕ) → AreWords t lanes base d → deltas t lanes base (undeltas t lanes base d) ≡ d
deltas-undeltas t lanes base d words =
    sym (deltas_of_rows t lanes base (undeltas t lanes base d) d words.layout (record {
      long = words.long;
      each = λ lane row in_lanes in_rows.
          sym (row_delta-sums t base (row_value (undeltas t lanes base d)) (row_value d) lane row (base-lt t lanes base d lane words in_lanes)
          (row_value-lt t lanes base d lane row words in_lanes in_rows)
          (λ r le. let r_in : r < t = omega arith in row_value-undeltas t lanes base d lane r words.layout in_lanes r_in));
    }))

-- rows that add up to sums are all of these, and have the differences
pub sums_of_rows : (t lanes : ℕ) (base d u : List ℕ) → AreWords t lanes base d → HasValues t lanes (row_undelta t base (row_value d)) u
    → (u ≡ undeltas t lanes base d) × (deltas t lanes base u ≡ d)
sums_of_rows t lanes base d u words has =
    let is = undeltas_of_rows t lanes base d u words.layout has in
    (is, rw is (deltas-undeltas t lanes base d words))

-- what the differences of a block add up to
pub undeltas-deltas : (t lanes : ℕ) (base v : List ℕ) → AreWords t lanes base v → undeltas t lanes base (deltas t lanes base v) ≡ v
undeltas-deltas t lanes base v words =
    sym (undeltas_of_rows t lanes base (deltas t lanes base v) v words.layout (record {
      long = words.long;
      each = λ lane row in_lanes in_rows.
          sym (row_undelta-differences t t base (row_value v) (row_value (deltas t lanes base v)) lane (base-lt t lanes base v lane words in_lanes)
          (λ r r_in. row_value-lt t lanes base v lane r words in_lanes r_in)
          (λ r r_in. row_value-deltas t lanes base v lane r words.layout in_lanes r_in) row in_rows);
    }))

-- so many bits are left of each number
low_bits-lt : (w : ℕ) (d : List ℕ) → All (λ x. x < 2 ^ w) (low_bits w d)
unfolding low_bits
low_bits-lt w d = All-from_get_or (λ x. x < 2 ^ w) (low_bits w d) 0 (λ i inside.
    let in_list : i < length d = rw length-map at inside in
    subst (λ (x : ℕ). x < 2 ^ w) (sym (get_or-map (λ x. x % 2 ^ w) d i 0 0 in_list)) (mod_below (slice_index d i) (2 ^ w) (pow_pos w)))

low_bits-wider : (w t : ℕ) (d : List ℕ) → w ≤ t → All (λ x. x < 2 ^ t) (low_bits w d)
low_bits-wider w t d le = All-from_get_or (λ x. x < 2 ^ t) (low_bits w d) 0 (λ i inside.
    lt_of_lt_of_le (All-get_or (λ x. x < 2 ^ w) (low_bits w d) i 0 inside (low_bits-lt w d)) (pow-le-pow_right (lit< tt) le))

length-low_bits : (w : ℕ) (d : List ℕ) → length (low_bits w d) ≡ length d
unfolding low_bits
length-low_bits w d = length-map d (λ x. x % 2 ^ w)

-- which is all of those that have no more
pub low_bits-below : (w : ℕ) (d : List ℕ) → All (λ x. x < 2 ^ w) d → low_bits w d ≡ d
unfolding low_bits
low_bits-below w d below = ext_get_or 0 (low_bits w d) d (length-low_bits w d) (λ i inside.
    let in_list : i < length d = rw length-map at inside in
    get_or-map (λ x. x % 2 ^ w) d i 0 0 in_list ∙ mod-eq_of_lt (All-get_or (λ x. x < 2 ^ w) d i 0 in_list below))

-- the differences' lowest w bits add up to the block exactly where there are no others
pub undeltas-low_deltas : (t lanes w : ℕ) (base v : List ℕ) → AreWords t lanes base v → w ≤ t
    → (undeltas t lanes base (low_bits w (deltas t lanes base v)) ≡ v) ↔ All (λ x. x < 2 ^ w) (deltas t lanes base v)
undeltas-low_deltas t lanes w base v words le = (
  λ same.
      let low : AreWords t lanes base (low_bits w (deltas t lanes base v)) =
      record {
        layout = words.layout;
        bases = words.bases;
        small_bases = words.small_bases;
        long = length-low_bits w (deltas t lanes base v) ∙ length-deltas t lanes base v;
        small = low_bits-wider w t (deltas t lanes base v) le;
      }
      in
      let is : low_bits w (deltas t lanes base v) ≡ deltas t lanes base v =
      sym (deltas-undeltas t lanes base (low_bits w (deltas t lanes base v)) low) ∙ ap (deltas t lanes base) same
      in
      subst (λ (d : List ℕ). All (λ x. x < 2 ^ w) d) is (low_bits-lt w (deltas t lanes base v)),
  λ below. ap (undeltas t lanes base) (low_bits-below w (deltas t lanes base v) below) ∙ undeltas-deltas t lanes base v words,
)
