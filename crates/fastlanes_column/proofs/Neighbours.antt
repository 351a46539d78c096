-- The differences of a block's neighbours.
use Rattle.std.proofs.Common.{◌≡◌, ℕ, ◌+◌, ◌-◌, ◌*◌, ◌/◌, ◌%◌, ◌^◌, ◌<◌, ◌≤◌, ◌↔◌, zero, suc, List, get_or, length, map, ap, sym, subst, ◌∙◌, add-zero, arith, zero-add, ◌≢◌, take, drop, set, below_more, get_or-set_other, get_or-set_same}
use Rattle.std.proofs.lemmas.List.{drop-map, get_or-map, get_or-take, length-map, length-set, length-take-le, map-set, take-map}
use Rattle.std.proofs.lemmas.List.Edits.{get_or-between}
use Rattle.std.proofs.lemmas.Slice.{between-put_mid}
use borrow.Rule.Slice.PartMut.{put_mid}
use Rattle.std.proofs.lemmas.List.Elements.{All-from_get_or}
use Rattle.std.proofs.lemmas.List.FromFn.{fill_by_all, get_or-map-range_with_len, length-map-range_with_len}
use Rattle.std.proofs.Math.Nat.{mod-add-div', zero-mod}
use Rattle.std.proofs.lemmas.Nat.{mod-mul-add, mod_below}
use Rattle.std.specs.List.{All, slice_index}
use Rattle.fastlanes.specs.Delta.{SmallOnesComeBack, deltas, row_before, row_delta, row_undelta, undeltas}
use Rattle.fastlanes.specs.Digits.{digits}
use Rattle.fastlanes.specs.Element.{IsLayout}
use Rattle.fastlanes.specs.Frame.{word_difference}
use Rattle.fastlanes.specs.Order.{lane_at, place, row_at, transposed_index}
use Rattle.fastlanes.specs.Packing.{low_bits}
use Rattle.fastlanes.specs.Transposition.{original_index, transposed, untransposed}
use Rattle.fastlanes.proofs.Callers.{transposed_again}
use Rattle.fastlanes.proofs.Places.{place-at, place-lt, row_at-lt, some_lanes}
use Rattle.fastlanes.proofs.Transposing.{original_index-lt, original_index-transposed, slice_index-transposed, transposed_index-lane, transposed_index-lt, transposed_index-original, transposed_index-place}
use Rattle.fastlanes_column.specs.Differences.{NeighboursComeBack, PrecedesInLanes, delta_from, deltas_from, lane_bases, neighbour_deltas, value_before}
use Rattle.fastlanes_column.specs.LeastWidth.{IsAsWide, IsLeastWidth}
use Rattle.fastlanes_column.proofs.WidthBounds.{IsAsWideBelow, as_wide_list}

length-undeltas : (t lanes : ℕ) (base d : List ℕ) → length (undeltas t lanes base d) ≡ 1024
unfolding undeltas
length-undeltas t lanes base d =
    length-map-range_with_len (λ i. row_undelta t base (λ lane row. slice_index d (place row lane)) (lane_at lanes i) (row_at lanes i)) 0 1024

-- where the differences of a transposed block add up to it again, the block comes back
pub neighbours_come_back : (t lanes w : ℕ) (base v p : List ℕ) → untransposed (transposed v) ≡ v
    → digits t lanes w p ≡ low_bits w (deltas t lanes base (transposed v))
    → SmallOnesComeBack t lanes w base (transposed v) (deltas t lanes base (transposed v)) → NeighboursComeBack t lanes w base v p
neighbours_come_back t lanes w base v p back are comes =
    let sums : undeltas t lanes base (digits t lanes w p) ≡ undeltas t lanes base (low_bits w (deltas t lanes base (transposed v))) = ap (undeltas t lanes base) are in (
      λ same. comes.0 (sym sums
          ∙ sym (transposed_again (undeltas t lanes base (digits t lanes w p)) (length-undeltas t lanes base (digits t lanes w p)))
          ∙ ap transposed same),
      λ small. ap untransposed (sums ∙ comes.1 small) ∙ back,
    )

-- the value before a place that is not the first
pub value_before-at : {X : Type 0} (number : X → ℕ) (before : ℕ) (block : List X) (place : ℕ) (x : X) → 0 < place → place ≤ length block
    → number (get_or block (place - 1) x) ≡ value_before before (map number block) place
value_before-at number before block zero x some inside = absurd (omega arith)
value_before-at number before block (suc j) x some inside =
    let back : suc j - 1 ≡ j = omega arith in
    rw back (sym (get_or-map number block j x 0 (omega arith)))

-- the difference of a value from the value before it, which is not the first
pub neighbour_delta-at : {X : Type 0} (number : X → ℕ) (t before : ℕ) (block : List X) (j : ℕ) (x y : X) → 0 < j → j < length block
    → word_difference t (number (get_or block j x)) (number (get_or block (j - 1) y)) ≡ delta_from t (map number block) (value_before before (map number block)) j
neighbour_delta-at number t before block j x y some inside =
    ap (λ (a : ℕ). word_difference t a (number (get_or block (j - 1) y))) (sym (get_or-map number block j x 0 inside))
    ∙ ap (word_difference t (slice_index (map number block) j)) (value_before-at number before block j y some (omega arith))

-- values that are put one place on
pub one_on : {X : Type 0} (number : X → ℕ) (block after ys : List X) (j : ℕ) → length block ≡ 1024 → length after ≡ 1024 → ys ≡ take 1023 block
    → 0 < j → j < 1024 → slice_index (map number (put_mid 1 (length after - 1) after ys)) j ≡ slice_index (map number block) (j - 1)
one_on number block after ys j whole long are some inside =
    let q = put_mid 1 (length after - 1) after ys in
    let place : j ≡ 1 + (j - 1) = omega arith in
    let count : length ys ≡ 1024 - 1 = ap length are ∙ length-take-le 1023 block (omega arith) in
    ap (slice_index (map number q)) place
    ∙ sym (get_or-between (map number q) 1 1024 (j - 1) 0 (omega arith))
    ∙ ap (λ (xs : List ℕ). slice_index (take 1023 xs) (j - 1)) (drop-map number 1 q)
    ∙ ap (λ (xs : List ℕ). slice_index xs (j - 1)) (take-map number 1023 (drop 1 q))
    ∙ ap (λ (xs : List _). slice_index (map number xs) (j - 1)) (between-put_mid 1 (length after - 1) after ys 1024 (omega arith) count ∙ are)
    ∙ ap (λ (xs : List ℕ). slice_index xs (j - 1)) (sym (take-map number 1023 block))
    ∙ get_or-take 1023 (map number block) (j - 1) 0 (omega arith)

most_lanes : (t lanes : ℕ) → IsLayout t lanes → lanes ≤ 1024
most_lanes t lanes layout = grind (arith, layout.size, layout.area)

-- the place where each lane begins is another one
begins_apart : (k lane lanes t : ℕ) → IsLayout t lanes → k < lanes → lane < lanes → k ≢ lane → transposed_index k ≢ transposed_index lane
begins_apart k lane lanes t layout k_in lane_in other same =
    let most : lanes ≤ 1024 = most_lanes t lanes layout in
    other (sym (original_index-transposed k (omega arith)) ∙ ap original_index same ∙ original_index-transposed lane (omega arith))

-- before a block's values stands the value before each of them, and before those that begin one of the first lanes its base
pub record PrecedesSoFar (t n : ℕ) (base v before : List ℕ) : Type 0 where
  pub long : length before ≡ 1024
  pub first : (lane : ℕ) → lane < n → slice_index before (transposed_index lane) ≡ slice_index base lane
  pub others : (j : ℕ) → j < 1024 → 0 < j % t → slice_index before j ≡ slice_index v (j - 1)

-- no lane is done
pub precedes_none : {X : Type 0} (number : X → ℕ) (t : ℕ) (base v : List ℕ) (before : List X) → length before ≡ 1024
    → ((j : ℕ) → 0 < j → j < 1024 → slice_index (map number before) j ≡ slice_index v (j - 1)) → PrecedesSoFar t 0 base v (map number before)
precedes_none number t base v before long on = record {
  long = rw length-map long;
  first = λ lane below. absurd (omega arith);
  others = λ j in_block inside. on j (positive t j inside) in_block;
}
  where
    positive : (t j : ℕ) → 0 < j % t → 0 < j
    positive t zero inside = absurd (omega (arith, zero-mod t))
    positive t (suc j) inside = omega arith

-- one lane more
pub precedes_more : {X : Type 0} (number : X → ℕ) (t lanes lane place : ℕ) (base v : List ℕ) (before : List X) (x : X) → IsLayout t lanes → lane < lanes
    → place ≡ transposed_index lane → number x ≡ slice_index base lane → PrecedesSoFar t lane base v (map number before)
    → PrecedesSoFar t (lane + 1) base v (map number (set before place x))
precedes_more number t lanes lane place base v before x layout in_lanes at is so_far =
    let most : lanes ≤ 1024 = most_lanes t lanes layout in
    let in_block : transposed_index lane < 1024 = transposed_index-lt lane (omega arith) in
    let here : place < length (map number before) = omega (arith, so_far.long) in
    let start = transposed_index-lane t lanes lane layout in_lanes in
    rw (map-set number before place x) record {
      long = length-set (map number before) place (number x) ∙ so_far.long;
      first = below_more _ lane
          (λ k below.
          let other : transposed_index k ≢ place = λ same. begins_apart k lane lanes t layout (omega arith) in_lanes (omega arith) (same ∙ at) in
          get_or-set_other (map number before) place (transposed_index k) (number x) 0 other ∙ so_far.first k below)
          (ap (slice_index (set (map number before) place (number x))) (sym at) ∙ get_or-set_same (map number before) place (number x) 0 here ∙ is);
      others = λ j j_in inside.
          let other : j ≢ place = λ same. absurd (omega (arith, ap (λ (n : ℕ). n % t) (same ∙ at), start)) in
          get_or-set_other (map number before) place j (number x) 0 other ∙ so_far.others j j_in inside;
    }

-- at the end, all are
pub precedes_all : (t lanes n : ℕ) (base v before : List ℕ) → lanes ≤ n → PrecedesSoFar t n base v before → PrecedesInLanes t lanes base v (slice_index before)
precedes_all t lanes n base v before all so_far = record {
  first = λ lane in_lanes. so_far.first lane (omega arith);
  others = so_far.others;
}

-- the base of a lane
pub base-at : (lanes before : ℕ) (v : List ℕ) (lane : ℕ) → lane < lanes → slice_index (lane_bases lanes before v) lane ≡ value_before before v (transposed_index lane)
unfolding lane_bases
base-at lanes before v lane in_lanes = get_or-map-range_with_len (λ k. value_before before v (transposed_index k)) 0 lanes lane lane 0 in_lanes (zero-add lane)

-- all bases, once each is written
pub all_bases : (lanes before : ℕ) (v base : List ℕ) (n : ℕ) → length base ≡ lanes → lanes ≤ n
    → ((k : ℕ) → k < n → slice_index base k ≡ value_before before v (transposed_index k)) → base ≡ lane_bases lanes before v
unfolding lane_bases
all_bases lanes before v base n long all are =
    fill_by_all (λ k. value_before before v (transposed_index k)) base lanes 0 long (λ k inside. are k (omega arith))

length-deltas_from : (t : ℕ) (v : List ℕ) (before : ℕ → ℕ) → length (deltas_from t v before) ≡ 1024
unfolding deltas_from
length-deltas_from t v before = length-map-range_with_len (delta_from t v before) 0 1024

-- a difference from what precedes a value
deltas_from-at : (t : ℕ) (v : List ℕ) (before : ℕ → ℕ) (j : ℕ) → j < 1024 → slice_index (deltas_from t v before) j ≡ delta_from t v before j
unfolding deltas_from
deltas_from-at t v before j in_block = get_or-map-range_with_len (delta_from t v before) 0 1024 j j 0 in_block (zero-add j)

-- a word that has a bit where one of these has
pub as_wide_deltas : (t x : ℕ) (v : List ℕ) (before : ℕ → ℕ) → IsAsWideBelow x 1024 (delta_from t v before) → IsAsWide x (deltas_from t v before)
unfolding deltas_from
as_wide_deltas t x v before = as_wide_list x 1024 (delta_from t v before)

length-transposed : (v : List ℕ) → length (transposed v) ≡ 1024
unfolding transposed
length-transposed v = length-map-range_with_len (λ i. slice_index v (transposed_index i)) 0 1024

-- the value before a place that begins no lane
value_before-inside : (t before : ℕ) (v : List ℕ) (j : ℕ) → 0 < j % t → value_before before v j ≡ slice_index v (j - 1)
value_before-inside t before v zero inside = absurd (omega (arith, zero-mod t))
value_before-inside t before v (suc k) inside = ap (slice_index v) (omega arith)

-- with these bases, the value before each value of a block precedes it in its lane
precedes-neighbours : (t lanes before : ℕ) (v : List ℕ) → PrecedesInLanes t lanes (lane_bases lanes before v) v (value_before before v)
precedes-neighbours t lanes before v = record {
  first = λ lane in_lanes. sym (base-at lanes before v lane in_lanes);
  others = λ j in_block inside. value_before-inside t before v j inside;
}

module _ (t lanes : ℕ) (base v : List ℕ) (before : ℕ → ℕ) (layout : IsLayout t lanes) (precedes : PrecedesInLanes t lanes base v before) where
  -- a place that begins no lane
  inside_lane : (lane row : ℕ) → lane < lanes → suc row < t → 0 < (transposed_index lane + suc row) % t
  inside_lane lane row in_lanes in_rows =
      let whole : transposed_index lane / t * t ≡ transposed_index lane = omega (arith, transposed_index-lane t lanes lane layout in_lanes, mod-add-div' (transposed_index lane) t) in
      let rest : (transposed_index lane / t * t + suc row) % t ≡ suc row = mod-mul-add (transposed_index lane / t) t (suc row) in_rows in
      let here : (transposed_index lane + suc row) % t ≡ suc row = ap (λ (n : ℕ). (n + suc row) % t) (sym whole) ∙ rest in
      omega (arith, here)

  -- what stands before a row of a lane precedes its value in the block
  row_before-precedes : (lane row : ℕ) → lane < lanes → row < t
      → row_before base (λ lane row. slice_index (transposed v) (place row lane)) lane row ≡ before (transposed_index (place row lane))
  row_before-precedes lane zero in_lanes in_rows =
      sym (precedes.first lane in_lanes) ∙ ap before (sym (transposed_index-place t lanes 0 lane layout in_rows in_lanes ∙ add-zero (transposed_index lane)))
  row_before-precedes lane (suc row) in_lanes in_rows =
      let here : row < t = omega arith in
      let there : transposed_index (place (suc row) lane) ≡ transposed_index lane + suc row = transposed_index-place t lanes (suc row) lane layout in_rows in_lanes in
      let in_block : transposed_index (place (suc row) lane) < 1024 = transposed_index-lt (place (suc row) lane) (place-lt t lanes (suc row) lane layout in_rows in_lanes) in
      let back : transposed_index lane + row ≡ transposed_index lane + suc row - 1 = omega arith in
      slice_index-transposed v (place row lane) (place-lt t lanes row lane layout here in_lanes)
      ∙ ap (slice_index v) (transposed_index-place t lanes row lane layout here in_lanes ∙ back)
      ∙ sym (precedes.others (transposed_index lane + suc row) (subst (λ (j : ℕ). j < 1024) there in_block) (inside_lane lane row in_lanes in_rows))
      ∙ ap before (sym there)

  -- the differences along the lanes are those from what precedes each value, transposed
  pub deltas_of_lanes : deltas t lanes base (transposed v) ≡ transposed (deltas_from t v before)
  unfolding deltas
  deltas_of_lanes = sym (fill_by_all
      (λ i. row_delta t base (λ lane row. slice_index (transposed v) (place row lane)) (lane_at lanes i) (row_at lanes i))
      (transposed (deltas_from t v before)) 1024 0 (length-transposed (deltas_from t v before)) (λ i in_block.
      let lane = lane_at lanes i in
      let row = row_at lanes i in
      let in_lanes : lane < lanes = mod_below i lanes (some_lanes t lanes layout) in
      let in_rows : row < t = row_at-lt t lanes i layout in_block in
      let here : place row lane ≡ i = place-at t lanes i layout in_block in
      let value : slice_index (transposed v) (place row lane) ≡ slice_index v (transposed_index i) =
      ap (slice_index (transposed v)) here ∙ slice_index-transposed v i in_block
      in
      let stands : row_before base (λ lane row. slice_index (transposed v) (place row lane)) lane row ≡ before (transposed_index i) =
      row_before-precedes lane row in_lanes in_rows ∙ ap (λ (k : ℕ). before (transposed_index k)) here
      in
      slice_index-transposed (deltas_from t v before) i in_block
      ∙ deltas_from-at t v before (transposed_index i) (transposed_index-lt i in_block)
      ∙ ap (λ (x : ℕ). word_difference t x (before (transposed_index i))) (sym value)
      ∙ ap (word_difference t (slice_index (transposed v) (place row lane))) (sym stands)))

-- from these bases they are those of neighbours, transposed
pub deltas_of_neighbours : (t lanes before : ℕ) (v : List ℕ) → IsLayout t lanes
    → deltas t lanes (lane_bases lanes before v) (transposed v) ≡ transposed (neighbour_deltas t before v)
deltas_of_neighbours t lanes before v layout =
    deltas_of_lanes t lanes (lane_bases lanes before v) v (value_before before v) layout (precedes-neighbours t lanes before v)

-- what holds of the elements of a transposed block holds of those of the block, and the other way round
pub All-transposed : (P : ℕ → Type 0) (v : List ℕ) → length v ≡ 1024 → All P (transposed v) ↔ All P v
All-transposed P v long = (
  λ all. All-from_get_or P v 0 (λ j inside.
      let in_block : j < 1024 = omega arith in
      let there : original_index j < length (transposed v) = rw (length-transposed v) (original_index-lt j in_block) in
      subst P (slice_index-transposed v (original_index j) (original_index-lt j in_block) ∙ ap (slice_index v) (transposed_index-original j in_block))
      (all (original_index j) 0 there)),
  λ all. All-from_get_or P (transposed v) 0 (λ i inside.
      let in_block : i < 1024 = rw (length-transposed v) at inside in
      let there : transposed_index i < length v = rw long (transposed_index-lt i in_block) in
      subst P (sym (slice_index-transposed v i in_block)) (all (transposed_index i) 0 there)),
)

-- so both have the same least width
least_width-transposed : (w : ℕ) (v : List ℕ) → length v ≡ 1024 → IsLeastWidth w (transposed v) ↔ IsLeastWidth w v
least_width-transposed w v long = (
  λ least. record {
    holds = (All-transposed (λ x. x < 2 ^ w) v long).0 least.holds;
    least = λ other fits. least.least other ((All-transposed (λ x. x < 2 ^ other) v long).1 fits);
  },
  λ least. record {
    holds = (All-transposed (λ x. x < 2 ^ w) v long).1 least.holds;
    least = λ other fits. least.least other ((All-transposed (λ x. x < 2 ^ other) v long).0 fits);
  },
)

-- that of the differences from what precedes each value is that of those along the lanes
pub least_width_of_lanes : (t lanes w : ℕ) (base v : List ℕ) (before : ℕ → ℕ) → IsLayout t lanes → PrecedesInLanes t lanes base v before
    → IsLeastWidth w (deltas_from t v before) → IsLeastWidth w (deltas t lanes base (transposed v))
least_width_of_lanes t lanes w base v before layout precedes least =
    subst (IsLeastWidth w) (sym (deltas_of_lanes t lanes base v before layout precedes))
    ((least_width-transposed w (deltas_from t v before) (length-deltas_from t v before)).1 least)

-- and that of neighbours
pub least_width_along_lanes : (t lanes before w : ℕ) (v : List ℕ) → IsLayout t lanes → IsLeastWidth w (neighbour_deltas t before v)
    → IsLeastWidth w (deltas t lanes (lane_bases lanes before v) (transposed v))
least_width_along_lanes t lanes before w v layout =
    least_width_of_lanes t lanes w (lane_bases lanes before v) v (value_before before v) layout (precedes-neighbours t lanes before v)

pub least_width_of_neighbours : (t lanes before w : ℕ) (base v : List ℕ) → IsLayout t lanes → base ≡ lane_bases lanes before v
    → IsLeastWidth w (deltas t lanes base (transposed v)) → IsLeastWidth w (neighbour_deltas t before v)
least_width_of_neighbours t lanes before w base v layout are least =
    (least_width-transposed w (neighbour_deltas t before v) (length-deltas_from t v (value_before before v))).0
    (subst (IsLeastWidth w) (ap (λ (b : List ℕ). deltas t lanes b (transposed v)) are ∙ deltas_of_neighbours t lanes before v layout) least)
