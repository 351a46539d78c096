-- A walk by rows comes to each place of a block once, so that it finds the digits of the block, in another order.
use Rattle.std.proofs.Common.{◌≡◌, ℕ, zero, suc, ◌+◌, ◌*◌, ◌/◌, ◌%◌, ◌<◌, ◌≤◌, List, [], ◌∷◌, ◌++◌, length, map, Contains, IsPermutation, remove, ap, sym, arith, refl, zero-add, ◌∙◌}
use Rattle.std.proofs.lemmas.List.{map-append}
use Rattle.std.proofs.lemmas.List.Edits.{length-remove}
use Rattle.std.proofs.lemmas.List.FromFn.{fill_by_all, get_or-map-range_with_len, length-map-range_with_len}
use Rattle.std.proofs.lemmas.List.Sorted.{Contains-permutation, IsPermutation-cons, IsPermutation-map, IsPermutation-refl, IsPermutation-remove, IsPermutation-sym, IsPermutation-trans, sum_by-IsPermutation}
use Rattle.std.proofs.lemmas.List.Sums.{sum-map}
use Rattle.std.proofs.lemmas.Nat.{div-mul-add, div_below, mod-mul-add, mod_below, mul-add-lt}
use Rattle.std.proofs.lemmas.Simd.{map-map}
use Rattle.std.specs.List.{range_with_len, slice_index, sum, sum_by}
use Rattle.fastlanes_base.specs.Digits.{digit, digits}
use Rattle.fastlanes_base.specs.Element.{IsLayout}
use Rattle.fastlanes_base.specs.Order.{lane_at, place, row_at}
use Rattle.fastlanes_base.proofs.Places.{place-at, row_at-lt, some_lanes}
use Rattle.fastlanes_rows.specs.Rows.{MakesGroups}
use Rattle.fastlanes_blocks.specs.Walks.{row_values, walk_digits, walk_place, walk_places}

-- what a list has that is above its first number stands after that
stands_after : (x y : ℕ) (ys : List ℕ) → y < x → Contains (y ∷ ys) x → Contains ys x
stands_after x y ys above (zero, inside, is) = absurd (omega arith)
stands_after x y ys above (suc k, inside, is) = (k, omega arith, is)

-- a list of n numbers that has each of the n numbers from a on has these in some order
has_all_from : (a n : ℕ) (ys : List ℕ) → length ys ≡ n → ((x : ℕ) → a ≤ x → x < a + n → Contains ys x) → IsPermutation (range_with_len a n) ys
has_all_from a zero [] long has = IsPermutation-refl []
has_all_from a zero (y ∷ ys) long has = absurd (omega arith)
has_all_from a (suc n) ys long has =
    let at = has a (omega arith) (omega arith) in
    let others = remove ys at.0 in
    let taken = IsPermutation-remove ys at.0 a at.1 (sym at.2) in
    let rest = has_all_from (a + 1) n others (omega (arith, length-remove ys at.0 at.1)) (λ x above below.
    stands_after x a others (omega arith) (Contains-permutation ys (a ∷ others) x taken (has x (omega arith) (omega arith)))) in
    IsPermutation-trans _ _ _ (IsPermutation-cons a _ _ rest) (IsPermutation-sym _ _ taken)

-- a function that gives each number below n for one below n puts these in another order
puts_in_order : (f : ℕ → ℕ) (n : ℕ) → ((x : ℕ) → x < n → (k : ℕ) × (k < n) × (f k ≡ x)) → IsPermutation (range_with_len 0 n) (map f (range_with_len 0 n))
puts_in_order f n gives =
    let long = length-map-range_with_len f 0 n in
    has_all_from 0 n _ long (λ x above below.
    let at = gives x (omega arith) in
    (at.0, omega arith, get_or-map-range_with_len f 0 n at.0 at.0 x at.1 (zero-add at.0) ∙ at.2))

-- the digits of a row, as a list, come after those before
pub row_taken : (from n : ℕ) (row : List ℕ) (before : List (ℕ × ℕ)) → length row ≡ n
    → map (λ a. a.1) (before ++ row_values n from (slice_index row)) ≡ map (λ a. a.1) before ++ row
row_taken from n row before long =
    map-append (λ a. a.1) before _
    ∙ ap (λ xs. map (λ a. a.1) before ++ xs) (map-map _ _ _ ∙ sym (fill_by_all (slice_index row) row n 0 long (λ k inside. refl)))

-- a walk comes to each row of each lane
walk_reaches : (t n lanes row lane : ℕ) → MakesGroups lanes n → row < t → lane < lanes → (k : ℕ) × (k < t * lanes) × (walk_place t n k ≡ place row lane)
walk_reaches t n lanes row lane groups in_rows in_lanes =
    let beside = mod_below lane n groups.0 in
    let in_groups = div_below lane n (lanes / n) groups.0 (omega arith) in
    let in_block = mul-add-lt _ n _ _ (mul-add-lt _ t _ _ in_groups in_rows) beside in (
      (lane / n * t + row) * n + lane % n,
      omega (arith, ap (λ groups_of_n. t * groups_of_n) groups.2),
      simp (div-mul-add, mod-mul-add) (ap (place row) (omega arith)),
    )

-- the places of a walk are those of the block, in another order
pub walk_permutes : (t n lanes : ℕ) → IsLayout t lanes → MakesGroups lanes n → IsPermutation (range_with_len 0 1024) (walk_places t n 1024)
walk_permutes t n lanes layout groups = puts_in_order (walk_place t n) 1024 (λ i in_block.
    let at = walk_reaches t n lanes (row_at lanes i) (lane_at lanes i) groups (row_at-lt t lanes i layout in_block) (mod_below i lanes (some_lanes t lanes layout)) in
    (at.0, omega (arith, layout.area), at.2 ∙ place-at t lanes i layout in_block))

-- the digits there are those of the block, in another order
pub walked_permutes : (t n lanes w : ℕ) (p : List ℕ) → IsLayout t lanes → MakesGroups lanes n
    → IsPermutation (digits t lanes w p) (map (λ a. a.1) (walk_digits t n lanes w p))
unfolding digits
walked_permutes t n lanes w p layout groups = simp map-map (IsPermutation-map (digit t lanes w p) _ _ (walk_permutes t n lanes layout groups))

-- they add up to the same number
pub walked_sum : (t n lanes w : ℕ) (p : List ℕ) → IsLayout t lanes → MakesGroups lanes n
    → sum_by (λ a. a.1) (walk_digits t n lanes w p) ≡ sum (digits t lanes w p)
walked_sum t n lanes w p layout groups =
    sym (sum-map (λ a. a.1) (walk_digits t n lanes w p)) ∙ sum_by-IsPermutation (λ x. x) _ _ (walked_permutes t n lanes w p layout groups)
