-- Tiles that are transposed in vectors, and joined.
use Rattle.std.proofs.Common.{◌≡◌, ◌≢◌, ℕ, ◌+◌, ◌-◌, ◌*◌, ◌/◌, ◌%◌, ◌<◌, ◌≤◌, ◌⊎◌, ◌++◌, List, true, nat_eq, nat_lt, length, map, take, drop, slice_index, inl, inr, ap, sym, ◌∙◌, arith, zero-add, set, get_or-set_other, get_or-set_same}
use Rattle.std.proofs.lemmas.Bool.{agree_below, agree_below_at, cases_lt, eqb-true, ltb-true}
use Rattle.std.proofs.lemmas.Grind.{common_steps}
use Rattle.std.proofs.lemmas.List.{get_or-append_right, get_or-drop, get_or-map, get_or-take, get_or_append_left, length-append, length-drop, length-map, length-set, length-take-le, drop-map, map-append, map-set, take-map}
use Rattle.std.proofs.lemmas.Nat.{div-mul-add, mod-mul-add, mod_below, div-add-mod'}
use Rattle.std.proofs.lemmas.Simd.{get_or-chunk, length-chunk, put_chunk_whole}
use Rattle.std.specs.Simd.Lanes.{chunk, pick_l, put_chunk}
use borrow.Rule.Slice.PartMut.{put_mid}
use Rattle.fastlanes_base.specs.Tile.{IsTileOf, TransposesTile, layer, woven}

-- a vector that is read from a part of a slice
pub read_at : (f : ℕ → ℕ) (n from : ℕ) (xs : List ℕ) → ((x : ℕ) → f x ≡ x) → from + n ≤ length xs
    → (j : ℕ) → j < n → slice_index (chunk 0 n (take (from + n - from) (drop from xs))) j ≡ slice_index (map f xs) (from + j)
read_at f n from xs same room j within =
    get_or-chunk 0 n (take (from + n - from) (drop from xs)) j 0 within
    ∙ ap (slice_index (take (from + n - from) (drop from xs))) (zero-add j)
    ∙ get_or-take (from + n - from) (drop from xs) j 0 (omega arith)
    ∙ get_or-drop from xs j 0
    ∙ sym (get_or-map f xs (from + j) 0 0 (omega arith) ∙ same _)

read_long : (n from : ℕ) (xs : List ℕ) → from + n ≤ length xs → length (chunk 0 n (take (from + n - from) (drop from xs))) ≡ n
read_long n from xs room = length-chunk 0 n _ (omega (arith, length-take-le (from + n - from) (drop from xs) (omega (arith, length-drop from xs))))

div-of_below : (m j : ℕ) → j < m → j / m ≡ 0
div-of_below m j below =
    let none : 0 * m + j ≡ j = omega arith in
    ap (λ i. i / m) (sym none) ∙ div-mul-add 0 m j below

mod-of_below : (m j : ℕ) → j < m → j % m ≡ j
mod-of_below m j below =
    let none : 0 * m + j ≡ j = omega arith in
    ap (λ i. i % m) (sym none) ∙ mod-mul-add 0 m j below

-- a lane of a shuffle
picked : (zs ks : List ℕ) (n j k : ℕ) → length ks ≡ n → j < n → slice_index ks j ≡ k → slice_index (pick_l 0 zs ks) j ≡ slice_index zs k
picked zs ks n j k long within is = get_or-map (slice_index zs) ks j 0 0 (omega (arith, long)) ∙ ap (slice_index zs) is

-- two vectors that are read from parts of a slice, one after another
pub read_both : (f : ℕ → ℕ) (m from step : ℕ) (ks xs : List ℕ) → ((x : ℕ) → f x ≡ x) → from + step * m + m ≤ length xs → from + m ≤ length xs
    → length ks ≡ m + m → agree_below (λ j. nat_eq (slice_index ks j) j) (λ _. true) (m + m) ≡ true
    → (j : ℕ) → j < m + m
    → slice_index (pick_l 0 (chunk 0 m (take (from + m - from) (drop from xs)) ++ chunk 0 m (take (from + step * m + m - (from + step * m)) (drop (from + step * m) xs))) ks) j
    ≡ slice_index (map f xs) (from + step * (j / m * m) + j % m)
read_both f m from step ks xs same room first_room long computed j within =
    let next = from + step * m in
    let low = chunk 0 m (take (from + m - from) (drop from xs)) in
    let high = chunk 0 m (take (next + m - next) (drop next xs)) in
    let first_long = read_long m from xs first_room in
    picked (low ++ high) ks (m + m) j j long within (eqb-true _ _ (agree_below_at (λ k. nat_eq (slice_index ks k) k) (λ _. true) (m + m) j computed within))
    ∙ elim (cases_lt j m) [
      | inl below ↦
          let quotient : j / m ≡ 0 = div-of_below m j below in
          let rest : j % m ≡ j = mod-of_below m j below in
          let place : from + step * (j / m * m) + j % m ≡ from + j = rw (quotient, rest) (omega arith) in
          get_or_append_left low high 0 j (omega (arith, first_long)) ∙ read_at f m from xs same first_room j below ∙ ap (slice_index (map f xs)) (sym place)
      | inr above ↦
          let k = j - m in
          let in_high : k < m = omega arith in
          let is : j ≡ 1 * m + k = omega arith in
          let quotient : j / m ≡ 1 = rw is (div-mul-add 1 m k in_high) in
          let rest : j % m ≡ k = ap (λ i. i % m) is ∙ mod-mul-add 1 m k in_high in
          let place : from + step * (j / m * m) + j % m ≡ next + k = ap (λ q. from + step * (q * m) + j % m) quotient ∙ ap (λ r. from + step * (1 * m) + r) rest ∙ omega arith in
          get_or-append_right low high m j 0 first_long above ∙ read_at f m next xs same room k in_high ∙ ap (slice_index (map f xs)) (sym place)
    ]

-- one vector, as if it was two
pub read_run : (f : ℕ → ℕ) (n from step : ℕ) (xs : List ℕ) → ((x : ℕ) → f x ≡ x) → from + n ≤ length xs
    → (j : ℕ) → j < n → slice_index (chunk 0 n (take (from + n - from) (drop from xs))) j ≡ slice_index (map f xs) (from + step * (j / n * n) + j % n)
read_run f n from step xs same room j within =
    let quotient : j / n ≡ 0 = div-of_below n j within in
    let rest : j % n ≡ j = mod-of_below n j within in
    let place : from + step * (j / n * n) + j % n ≡ from + j = rw (quotient, rest) (omega arith) in
    read_at f n from xs same room j within ∙ ap (slice_index (map f xs)) (sym place)

-- a shuffle of two vectors whose positions interleave them
pub picked_woven : (side n s : ℕ) (ks xs ys : List ℕ) (rows : ℕ → ℕ → ℕ) → length xs ≡ n → length ks ≡ n
    → ((j : ℕ) → j < n → slice_index xs j ≡ rows 0 j) → ((j : ℕ) → j < n → slice_index ys j ≡ rows 1 j)
    → agree_below (λ j. nat_eq (slice_index ks j) (j % side % 2 * n + (j / side * side + s * (side / 2) + j % side / 2))) (λ _. true) n ≡ true
    → agree_below (λ j. nat_lt (j / side * side + s * (side / 2) + j % side / 2) n) (λ _. true) n ≡ true
    → (j : ℕ) → j < n → slice_index (pick_l 0 (xs ++ ys) ks) j ≡ woven side rows s j
picked_woven side n s ks xs ys rows long ks_long first second placed inside j within =
    let which = j % side % 2 in
    let lane = j / side * side + s * (side / 2) + j % side / 2 in
    let small : which < 2 = mod_below (j % side) 2 (omega arith) in
    let in_lanes : lane < n = ltb-true _ _ (agree_below_at (λ j. nat_lt (j / side * side + s * (side / 2) + j % side / 2) n) (λ _. true) n j inside within) in
    picked (xs ++ ys) ks n j (which * n + lane) ks_long within
    (eqb-true _ _ (agree_below_at (λ j. nat_eq (slice_index ks j) (j % side % 2 * n + (j / side * side + s * (side / 2) + j % side / 2))) (λ _. true) n j placed within))
    ∙ elim (cases_lt which 1) [
      | inl none ↦
          let is : which ≡ 0 = omega arith in
          let rest : 0 * n + lane ≡ lane = omega arith in
          ap (λ w. slice_index (xs ++ ys) (w * n + lane)) is
          ∙ ap (slice_index (xs ++ ys)) rest
          ∙ get_or_append_left xs ys 0 lane (omega (arith, long)) ∙ first lane in_lanes ∙ ap (λ w. rows w lane) (sym is)
      | inr one ↦
          let is : which ≡ 1 = omega arith in
          let rest : 1 * n + lane - n ≡ lane = omega arith in
          ap (λ w. slice_index (xs ++ ys) (w * n + lane)) is
          ∙ get_or-append_right xs ys n (1 * n + lane) 0 long (omega arith) ∙ ap (slice_index ys) rest ∙ second lane in_lanes ∙ ap (λ w. rows w lane) (sym is)
    ]

-- a vector that is written to a part of a slice
written_parts : (n to : ℕ) (xs row : List ℕ) → length row ≡ n → to + n ≤ length xs
    → put_mid to (to + n - to) xs (put_chunk 0 (take (to + n - to) (drop to xs)) row) ≡ take to xs ++ (row ++ drop (to + n - to) (drop to xs))
written_parts n to xs row long room =
    ap (put_mid to (to + n - to) xs) (put_chunk_whole (take (to + n - to) (drop to xs)) row (length-take-le (to + n - to) (drop to xs) (omega (arith, length-drop to xs)) ∙ omega (arith, long)))

pub written_here : (f : ℕ → ℕ) (n to : ℕ) (xs row : List ℕ) → ((x : ℕ) → f x ≡ x) → length row ≡ n → to + n ≤ length xs
    → (j : ℕ) → j < n → slice_index (map f (put_mid to (to + n - to) xs (put_chunk 0 (take (to + n - to) (drop to xs)) row))) (to + j) ≡ slice_index row j
written_here f n to xs row same long room j within =
    let first : length (take to xs) ≡ to = length-take-le to xs (omega arith) in
    let after = drop (to + n - to) (drop to xs) in
    let there : to + j - to ≡ j = omega arith in
    let whole : length (take to xs ++ (row ++ after)) ≡ to + (n + length after) = length-append (take to xs) (row ++ after) ∙ ap (λ k. k + length (row ++ after)) first ∙ ap (λ k. to + k) (length-append row after ∙ ap (λ k. k + length after) long) in
    ap (λ l. slice_index (map f l) (to + j)) (written_parts n to xs row long room)
    ∙ get_or-map f (take to xs ++ (row ++ after)) (to + j) 0 0 (omega (arith, whole)) ∙ same _
    ∙ get_or-append_right (take to xs) (row ++ after) to (to + j) 0 first (omega arith)
    ∙ ap (slice_index (row ++ after)) there
    ∙ get_or_append_left row after 0 j (omega (arith, long))

pub written_elsewhere : (f : ℕ → ℕ) (n to : ℕ) (xs row : List ℕ) → ((x : ℕ) → f x ≡ x) → length row ≡ n → to + n ≤ length xs
    → (i : ℕ) → (i < to) ⊎ (to + n ≤ i) → slice_index (map f (put_mid to (to + n - to) xs (put_chunk 0 (take (to + n - to) (drop to xs)) row))) i ≡ slice_index (map f xs) i
written_elsewhere f n to xs row same long room i outside =
    let first : length (take to xs) ≡ to = length-take-le to xs (omega arith) in
    let size : to + n - to ≡ n = omega arith in
    let after = drop (to + n - to) (drop to xs) in
    let parts = map-append f (take to xs) (row ++ after) ∙ ap (λ l. map f (take to xs) ++ l) (map-append f row after) in
    let mapped : length (map f (take to xs)) ≡ to = length-map (take to xs) f ∙ first in
    let row_mapped : length (map f row) ≡ n = length-map row f ∙ long in
    ap (λ l. slice_index (map f l) i) (written_parts n to xs row long room) ∙ ap (λ l. slice_index l i) parts
    ∙ elim outside [
      | inl before ↦
          get_or_append_left (map f (take to xs)) _ 0 i (omega (arith, mapped))
          ∙ ap (λ l. slice_index l i) (sym (take-map f to xs)) ∙ get_or-take to (map f xs) i 0 before
      | inr past ↦
          let at : to + (n + (i - to - n)) ≡ i = omega arith in
          get_or-append_right (map f (take to xs)) _ to i 0 mapped (omega arith)
          ∙ get_or-append_right (map f row) _ n (i - to) 0 row_mapped (omega arith)
          ∙ ap (λ k. slice_index (map f (drop k (drop to xs))) (i - to - n)) size
          ∙ ap (λ l. slice_index l (i - to - n)) (sym (drop-map f n (drop to xs)) ∙ ap (drop n) (sym (drop-map f to xs)))
          ∙ get_or-drop n (drop to (map f xs)) (i - to - n) 0 ∙ get_or-drop to (map f xs) (n + (i - to - n)) 0
          ∙ ap (slice_index (map f xs)) at
    ]

-- a run that is written is a tile
pub run_tile : (n from from_step to to_step : ℕ) (u v q : List ℕ) (at : ℕ → ℕ) → length q ≡ length v
    → ((j : ℕ) → j < n → slice_index q (to + j) ≡ at j) → ((i : ℕ) → (i < to) ⊎ (to + n ≤ i) → slice_index q i ≡ slice_index v i)
    → ((j : ℕ) → j < n → at j ≡ slice_index u (from + from_step * j)) → TransposesTile 1 n from from_step to to_step u v q
run_tile n from from_step to to_step u v q at long here others reads =
    let put : (g : ℕ → ℕ) → IsTileOf 1 n from from_step to to_step u g → (a : ℕ) → a < n → slice_index q (to + a) ≡ g (to + a) = λ g is a a_in.
    let first : to + to_step * 0 + a ≡ to + a = omega arith in
    let read : from + from_step * a + 0 ≡ from + from_step * a = omega arith in
    here a a_in ∙ reads a a_in ∙ ap (slice_index u) (sym read) ∙ sym (is a 0 a_in (omega arith)) ∙ ap g first
    in
    record {
      long = long;
      here = λ g is a b a_in b_in.
          let none : b ≡ 0 = omega arith in
          let first : to + to_step * b + a ≡ to + a = rw none (omega arith) in
          ap (slice_index q) first ∙ put g is a a_in ∙ ap g (sym first);
      kept = λ g is i same. elim (cases_lt i to) [
        | inl below ↦ others i (inl below) ∙ same
        | inr from ↦ elim (cases_lt i (to + n)) [
          | inl inside ↦
              let place : i ≡ to + (i - to) = omega arith in
              ap (slice_index q) place ∙ put g is (i - to) (omega arith) ∙ ap g (sym place)
          | inr past ↦ others i (inr past) ∙ same
        ]
      ];
    }

-- a tile below another
pub tile_below : (rows more n from from_step to to_step from_next to_next : ℕ) (u v w q : List ℕ) → from_next ≡ from + rows → to_next ≡ to + to_step * rows
    → TransposesTile rows n from from_step to to_step u v w → TransposesTile more n from_next from_step to_next to_step u w q
    → TransposesTile (rows + more) n from from_step to to_step u v q
tile_below rows more n from from_step to to_step from_next to_next u v w q from_is to_is first second =
    let of_first : (g : ℕ → ℕ) → IsTileOf (rows + more) n from from_step to to_step u g → IsTileOf rows n from from_step to to_step u g = λ g is a b a_in b_in.
    is a b a_in (omega arith)
    in
    let place : (a b : ℕ) → to_next + to_step * b + a ≡ to + to_step * (rows + b) + a = λ a b. rw to_is (omega arith) in
    let of_second : (g : ℕ → ℕ) → IsTileOf (rows + more) n from from_step to to_step u g → IsTileOf more n from_next from_step to_next to_step u g = λ g is a b a_in b_in.
    let read : from + from_step * a + (rows + b) ≡ from_next + from_step * a + b = rw from_is (omega arith) in
    ap g (place a b) ∙ is a (rows + b) a_in (omega arith) ∙ ap (slice_index u) read
    in
    record {
      long = second.long ∙ first.long;
      here = λ g is a b a_in b_in. elim (cases_lt b rows) [
        | inl above ↦ second.kept g (of_second g is) (to + to_step * b + a) (first.here g (of_first g is) a b a_in above)
        | inr below ↦
            let same : rows + (b - rows) ≡ b = omega arith in
            let there : to_next + to_step * (b - rows) + a ≡ to + to_step * b + a = place a (b - rows) ∙ ap (λ k. to + to_step * k + a) same in
            ap (slice_index q) (sym there) ∙ second.here g (of_second g is) a (b - rows) a_in (omega arith) ∙ ap g there
      ];
      kept = λ g is i same. second.kept g (of_second g is) i (first.kept g (of_first g is) i same);
    }

-- a tile beside another
pub tile_beside : (rows n more from from_step to to_step from_next to_next : ℕ) (u v w q : List ℕ) → from_next ≡ from + from_step * n → to_next ≡ to + n
    → TransposesTile rows n from from_step to to_step u v w → TransposesTile rows more from_next from_step to_next to_step u w q
    → TransposesTile rows (n + more) from from_step to to_step u v q
tile_beside rows n more from from_step to to_step from_next to_next u v w q from_is to_is first second =
    let of_first : (g : ℕ → ℕ) → IsTileOf rows (n + more) from from_step to to_step u g → IsTileOf rows n from from_step to to_step u g = λ g is a b a_in b_in.
    is a b (omega arith) b_in
    in
    let place : (a b : ℕ) → to_next + to_step * b + a ≡ to + to_step * b + (n + a) = λ a b. rw to_is (omega arith) in
    let of_second : (g : ℕ → ℕ) → IsTileOf rows (n + more) from from_step to to_step u g → IsTileOf rows more from_next from_step to_next to_step u g = λ g is a b a_in b_in.
    let read : from + from_step * (n + a) + b ≡ from_next + from_step * a + b = rw from_is (omega arith) in
    ap g (place a b) ∙ is (n + a) b (omega arith) b_in ∙ ap (slice_index u) read
    in
    record {
      long = second.long ∙ first.long;
      here = λ g is a b a_in b_in. elim (cases_lt a n) [
        | inl before ↦ second.kept g (of_second g is) (to + to_step * b + a) (first.here g (of_first g is) a b before b_in)
        | inr after ↦
            let same : n + (a - n) ≡ a = omega arith in
            let there : to_next + to_step * b + (a - n) ≡ to + to_step * b + a = place (a - n) b ∙ ap (λ k. to + to_step * b + k) same in
            ap (slice_index q) (sym there) ∙ second.here g (of_second g is) (a - n) b (omega arith) b_in ∙ ap g there
      ];
      kept = λ g is i same. second.kept g (of_second g is) i (first.kept g (of_first g is) i same);
    }

-- the layers put lane j of row i to where row j of lane i was
pub layers_8 : (rows : ℕ → ℕ → ℕ) (i j : ℕ) → i < 8 → j < 8 → layer 8 (layer 8 (layer 8 rows)) i j ≡ rows (j % 8) (j / 8 * 8 + i)
layers_8 rows i j in_rows in_lanes =
    grind (arith, common_steps)

pub layers_4 : (rows : ℕ → ℕ → ℕ) (i j : ℕ) → i < 4 → j < 8 → layer 4 (layer 4 rows) i j ≡ rows (j % 4) (j / 4 * 4 + i)
layers_4 rows i j in_rows in_lanes = grind (arith, common_steps)

pub layers_2 : (rows : ℕ → ℕ → ℕ) (i j : ℕ) → i < 2 → j < 4 → woven 2 rows i j ≡ rows (j % 2) (j / 2 * 2 + i)
layers_2 rows i j in_rows in_lanes = grind (arith, common_steps)

-- a run of a tile, whose rows were read by vectors
pub turned_run : (side from from_step i j : ℕ) (u : List ℕ) → i < side
    → slice_index u (from + from_step * (j % side) + from_step * ((j / side * side + i) / side * side) + (j / side * side + i) % side) ≡ slice_index u (from + i + from_step * j)
turned_run side from from_step i j u within =
    let whole : j % side + j / side * side ≡ j = omega (arith, div-add-mod' j side) in
    let quotient : (j / side * side + i) / side ≡ j / side = div-mul-add (j / side) side i within in
    let rest : (j / side * side + i) % side ≡ i = mod-mul-add (j / side) side i within in
    let sum : from + from_step * (j % side) + from_step * (j / side * side) + i ≡ from + i + from_step * j = (let spread : from_step * (j % side + j / side * side) ≡ from_step * (j % side) + from_step * (j / side * side) = omega arith in omega (arith, spread, ap (λ k. from_step * k) whole)) in
    ap (λ q. slice_index u (from + from_step * (j % side) + from_step * (q * side) + (j / side * side + i) % side)) quotient
    ∙ ap (λ r. slice_index u (from + from_step * (j % side) + from_step * (j / side * side) + r)) rest
    ∙ ap (slice_index u) sum

-- a run that is written from the rows of a tile
pub run_of_tile : {X : Type 0} (number : X → ℕ) (side n from from_step from_run to to_step i : ℕ) (u : List ℕ) (v q : List X) (at : ℕ → ℕ)
    → i < side → from_run ≡ from + i → length q ≡ length v → ((j : ℕ) → j < n → slice_index (map number q) (to + j) ≡ at j)
    → ((k : ℕ) → (k < to) ⊎ (to + n ≤ k) → slice_index (map number q) k ≡ slice_index (map number v) k)
    → ((j : ℕ) → j < n → at j ≡ slice_index u (from + from_step * (j % side) + from_step * ((j / side * side + i) / side * side) + (j / side * side + i) % side))
    → TransposesTile 1 n from_run from_step to to_step u (map number v) (map number q)
run_of_tile number side n from from_step from_run to to_step i u v q at within from_is long here others reads =
    run_tile n from_run from_step to to_step u (map number v) (map number q) at (length-map q number ∙ long ∙ sym (length-map v number)) here others
    (λ j h. reads j h ∙ turned_run side from from_step i j u within ∙ ap (λ k. slice_index u (k + from_step * j)) (sym from_is))

-- one element that is written is a tile
pub element_tile : {X : Type 0} (number : X → ℕ) (from from_step to to_step : ℕ) (u : List ℕ) (v q : List X) (x : X)
    → to < length v → q ≡ set v to x → number x ≡ slice_index u from → TransposesTile 1 1 from from_step to to_step u (map number v) (map number q)
element_tile number from from_step to to_step u v q x room is reads =
    let put : map number q ≡ set (map number v) to (number x) = ap (map number) is ∙ map-set number v to x in
    run_tile 1 from from_step to to_step u (map number v) (map number q) (λ j. number x)
    (rw put (length-set (map number v) to (number x)))
    (λ j within.
    let there : to + j ≡ to = omega arith in
    rw (put, there) (get_or-set_same (map number v) to (number x) 0 (rw length-map room)))
    (λ i outside.
    let other : i ≢ to = λ same. elim outside [ inl before ↦ absurd (omega arith) | inr past ↦ absurd (omega arith) ] in
    rw put (get_or-set_other (map number v) to i (number x) 0 other))
    (λ j within.
    let first : j ≡ 0 = omega arith in
    let there : from + from_step * j ≡ from = rw first (omega arith) in
    reads ∙ ap (slice_index u) (sym there))
