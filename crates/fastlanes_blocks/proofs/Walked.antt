-- A walk by rows of lanes, a row longer.
use Rattle.std.proofs.Common.{◌≡◌, ℕ, ◌+◌, ◌*◌, ◌/◌, ◌%◌, ◌^◌, ◌<◌, ◌≤◌, zero, suc, List, [], ◌∷◌, ◌++◌, length, map, ap, subst, sym, ◌∙◌, arith, refl}
use Rattle.std.proofs.Math.Nat.{mul-le-mul_left, mul-le-mul_right}
use Rattle.std.proofs.lemmas.List.{append-nil, append_assoc, length-map}
use Rattle.std.proofs.lemmas.List.FromFn.{length-range_with_len, map-range_with_len_more}
use Rattle.std.proofs.lemmas.Simd.{map-map}
use Rattle.std.proofs.lemmas.Nat.{div-mul-add, mod-mul-add, mod_below, pow_pos}
use Rattle.std.specs.List.{range_with_len}
use Rattle.fastlanes_base.specs.Digits.{digit, row_digit}
use Rattle.fastlanes_base.specs.Element.{IsLayout}
use Rattle.fastlanes_base.specs.Order.{lane_at, place, row_at}
use Rattle.fastlanes_rows.specs.Rows.{HasLanes, LanesBelow}
use Rattle.fastlanes_blocks.specs.Walks.{row_values, walk_digits, walk_place, walk_places, with_values}
use Rattle.fastlanes_base.proofs.Places.{lane_at-place, row_at-place}

-- a list made from a function of numbers, in two parts
range_parts : {X : Type 0} (f : ℕ → X) (m n : ℕ) → map f (range_with_len 0 (m + n)) ≡ map f (range_with_len 0 m) ++ map f (range_with_len m n)
range_parts f m zero =
    let none : m + 0 ≡ m = omega arith in
    ap (λ k. map f (range_with_len 0 k)) none ∙ sym (append-nil (map f (range_with_len 0 m)))
range_parts f m (suc n) =
    let next : suc n ≡ n + 1 = omega arith in
    let more : m + suc n ≡ m + n + 1 = omega arith in
    ap (λ k. map f (range_with_len 0 k)) more
    ∙ map-range_with_len_more f 0 (m + n) (m + n) (omega arith)
    ∙ ap (λ l. l ++ f (m + n) ∷ []) (range_parts f m n)
    ∙ append_assoc (map f (range_with_len 0 m)) (map f (range_with_len m n)) (f (m + n) ∷ [])
    ∙ ap (λ l. map f (range_with_len 0 m) ++ l) (sym (map-range_with_len_more f m n (m + n) refl))
    ∙ ap (λ k. map f (range_with_len 0 m) ++ map f (range_with_len m k)) (sym next)

-- two functions that agree from a and from b on
range_same : {X : Type 0} (f g : ℕ → X) (a b n : ℕ) → ((k : ℕ) → k < n → f (a + k) ≡ g (b + k)) → map f (range_with_len a n) ≡ map g (range_with_len b n)
range_same f g a b zero same = refl
range_same f g a b (suc n) same =
    let next : suc n ≡ n + 1 = omega arith in
    ap (λ k. map f (range_with_len a k)) next
    ∙ map-range_with_len_more f a n (a + n) refl
    ∙ ap (λ x. map f (range_with_len a n) ++ x ∷ []) (same n (omega arith))
    ∙ ap (λ l. l ++ g (b + n) ∷ []) (range_same f g a b n (λ k below. same k (omega arith)))
    ∙ sym (map-range_with_len_more g b n (b + n) refl)
    ∙ ap (λ k. map g (range_with_len b k)) (sym next)

-- a place, and what a function gives for its lane and row
abbrev with_value : ℕ → (ℕ → ℕ → ℕ) → ℕ → ℕ × ℕ
with_value lanes at i = (i, at (lane_at lanes i) (row_at lanes i))

-- the values at the places of a walk, from its number
values_by_number : (t n lanes count : ℕ) (at : ℕ → ℕ → ℕ) → with_values lanes at (walk_places t n count)
    ≡ map (λ k. with_value lanes at (walk_place t n k)) (range_with_len 0 count)
values_by_number t n lanes count at = map-map (with_value lanes at) (walk_place t n) (range_with_len 0 count)

-- a place inside a row
place_inside : (t n lane group row j : ℕ) → lane ≡ n * group → row < t → j < n → walk_place t n ((group * t + row) * n + j) ≡ place row (lane + j)
place_inside t n lane group row j same in_rows inside =
    let whole : ((group * t + row) * n + j) / n ≡ group * t + row = div-mul-add (group * t + row) n j inside in
    let part : ((group * t + row) * n + j) % n ≡ j = mod-mul-add (group * t + row) n j inside in
    rw (whole, part, div-mul-add group t row in_rows, mod-mul-add group t row in_rows, ← same) refl

-- a walk with one row more
pub walked_more : (t n lanes lane group row : ℕ) (at : ℕ → ℕ → ℕ) (value : ℕ → ℕ) → IsLayout t lanes → lane ≡ n * group → lane + n ≤ lanes → row < t
    → HasLanes n value (λ j. at (lane + j) row)
    → with_values lanes at (walk_places t n ((group * t + row) * n)) ++ row_values n (place row lane) value
    ≡ with_values lanes at (walk_places t n ((group * t + (row + 1)) * n))
walked_more t n lanes lane group row at value layout same fits in_rows has =
    let first = (group * t + row) * n in
    let more : (group * t + (row + 1)) * n ≡ first + n = omega arith in
    let each : ℕ → ℕ × ℕ = λ k. with_value lanes at (walk_place t n k) in
    let agree : (j : ℕ) → j < n → (place row lane + (0 + j), value (0 + j)) ≡ each (first + j) = λ j inside.
    let spot = place row (lane + j) in
    let none : 0 + j ≡ j = omega arith in
    let same_lane = lane_at-place t lanes row (lane + j) layout in_rows (omega arith) in
    let same_row = row_at-place t lanes row (lane + j) layout in_rows (omega arith) in
    let there : at (lane_at lanes spot) (row_at lanes spot) ≡ value j = (λ i. at (same_lane i) (same_row i)) ∙ sym (has j inside) in
    let along : place row lane + j ≡ spot = omega arith in
    ap (λ k. (place row lane + k, value k)) none ∙ ap (λ k. (k, value j)) along
    ∙ sym (ap (with_value lanes at) (place_inside t n lane group row j same in_rows inside) ∙ ap (λ x. (spot, x)) there)
    in
    ap (λ l. l ++ row_values n (place row lane) value) (values_by_number t n lanes first at)
    ∙ ap (λ l. map each (range_with_len 0 first) ++ l) (range_same (λ j. (place row lane + j, value j)) each 0 first n agree)
    ∙ sym (range_parts each first n)
    ∙ ap (λ k. map each (range_with_len 0 k)) (sym more)
    ∙ sym (values_by_number t n lanes _ at)

-- before a row of a group there is room for it
pub walked_room : (t n lanes lane group row : ℕ) (at : ℕ → ℕ → ℕ) → IsLayout t lanes → lane ≡ n * group → lane + n ≤ lanes → row < t
    → length (with_values lanes at (walk_places t n ((group * t + row) * n))) + n ≤ 1024
walked_room t n lanes lane group row at layout same fits in_rows =
    let long : length (with_values lanes at (walk_places t n ((group * t + row) * n))) ≡ (group * t + row) * n = length-map _ _ ∙ length-map _ _ ∙ length-range_with_len 0 _ in
    let below : (group * t + row + 1) * n ≤ (group * t + t) * n = mul-le-mul_right n (omega arith) in
    let turn : (group * t + t) * n ≡ t * (n * group + n) = omega arith in
    let inside : t * (lane + n) ≤ t * lanes = mul-le-mul_left t fits in
    omega (arith, long, below, turn, rw same at inside, layout.area)

-- the lanes of all groups are walked with all their places
pub walked_whole : (t n lanes w group : ℕ) (p : List ℕ) → IsLayout t lanes → lanes ≡ n * group
    → with_values lanes (row_digit t lanes w p) (walk_places t n (group * t * n)) ≡ walk_digits t n lanes w p
unfolding digit
walked_whole t n lanes w group p layout all =
    let turn : group * t * n ≡ t * (n * group) = omega arith in
    let count : group * t * n ≡ 1024 = turn ∙ ap (λ k. t * k) (sym all) ∙ layout.area in
    ap (λ k. with_values lanes (row_digit t lanes w p) (walk_places t n k)) count

-- the values of a row are below what all values are below
pub row_below : (n w lane row : ℕ) (at : ℕ → ℕ → ℕ) (value : ℕ → ℕ) → ((l r : ℕ) → at l r < 2 ^ w)
    → HasLanes n value (λ j. at (lane + j) row) → LanesBelow n value (2 ^ w)
row_below n w lane row at value below has j inside = subst (λ (x : ℕ). x < 2 ^ w) (sym (has j inside)) (below (lane + j) row)

-- digits are below 2 ^ w
pub digits_below : (t lanes w : ℕ) (p : List ℕ) (l r : ℕ) → row_digit t lanes w p l r < 2 ^ w
digits_below t lanes w p l r = mod_below _ (2 ^ w) (pow_pos w)
