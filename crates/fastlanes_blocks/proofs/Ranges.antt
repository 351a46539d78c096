-- What lanes have of the numbers that were taken, and the least and the greatest number in the end.
use Rattle.std.proofs.Common.{◌≡◌, ℕ, ◌+◌, ◌%◌, ◌^◌, ◌<◌, ◌≤◌, zero, suc, inl, inr, ⊎_elim, List, ◌∷◌, ◌++◌, length, get_or, map, max, min, All, Contains, subst, sym, ◌∙◌, arith, zero-add, below_more}
use Rattle.std.proofs.lemmas.Bool.{cases_lt}
use Rattle.std.proofs.lemmas.List.{length-map, map-append}
use Rattle.std.proofs.lemmas.List.Elements.{All-append, All-map, All-weaker, Contains-append_left, Contains-append_right}
use Rattle.std.proofs.lemmas.List.FromFn.{get_or-map-range_with_len, length-map-range_with_len, length-range_with_len}
use Rattle.std.proofs.lemmas.List.Sorted.{All-permutation, Contains-permutation, IsPermutation-sym}
use Rattle.std.proofs.lemmas.Simd.{map-map}
use Rattle.std.proofs.Math.Nat.{mod-eq_of_lt, pow-le-pow_right}
use Rattle.std.specs.List.{range_with_len}
use Rattle.fastlanes_base.specs.Digits.{digit, digits}
use Rattle.fastlanes_base.specs.Element.{IsLayout}
use Rattle.fastlanes_rows.specs.Rows.{HasLanes, LanesBelow, MakesGroups}
use Rattle.fastlanes_blocks.specs.Ranges.{AfterLane, HasGreatest, HasLeast, HoldsFirst, IsFirst, IsFirstOf, IsGreatest, IsLeast}
use Rattle.fastlanes_blocks.specs.Walks.{row_values, walk_digits, walk_places}
use Rattle.fastlanes_blocks.proofs.Orders.{walked_permutes}
use Rattle.fastlanes_blocks.proofs.Walked.{digits_below}

-- the numbers of a row come after those that were taken
numbers_more : (n from : ℕ) (value : ℕ → ℕ) (taken : List (ℕ × ℕ))
    → map (λ a. a.1) (taken ++ row_values n from value) ≡ map (λ a. a.1) taken ++ map value (range_with_len 0 n)
numbers_more n from value taken = simp (map-append, map-map)

-- x is what one of n lanes has, and it comes before what each of the first m has
pub record IsFirstSoFar (Before : ℕ → ℕ → Type 0) (m n : ℕ) (at : ℕ → ℕ) (x : ℕ) : Type 0 where
  pub one : (j : ℕ) × (j < n) × (x ≡ at j)
  pub before : (j : ℕ) → j < m → Before x (at j)

-- what the first lane has, before any has had its turn
pub first_of_none : (Before : ℕ → ℕ → Type 0) (n : ℕ) (at : ℕ → ℕ) (x : ℕ) → 0 < n → x ≡ at 0 → IsFirstSoFar Before 0 n at x
first_of_none Before n at x some is = record {
  one = (0, some, is);
  before = λ j inside. absurd (omega arith);
}

-- digits of w bits are below 2 ^ w
digit_below : (t lanes w : ℕ) (p : List ℕ) (i : ℕ) → digit t lanes w p i < 2 ^ w
unfolding digit
digit_below t lanes w p i = digits_below t lanes w p _ _

module _ (Before : ℕ → ℕ → Type 0) (through : (a b c : ℕ) → Before a b → Before b c → Before a c) where
  -- a row is taken
  taken_more : (start n from : ℕ) (old value new : ℕ → ℕ) (taken : List (ℕ × ℕ)) → ((j : ℕ) → j < n → IsFirst Before (old j) (value j) (new j))
      → HoldsFirst Before start n old (map (λ a. a.1) taken) → HoldsFirst Before start n new (map (λ a. a.1) (taken ++ row_values n from value))
  taken_more start n from old value new taken is_first held =
      let numbers : List ℕ = map (λ a. a.1) taken in
      let values : List ℕ = map value (range_with_len 0 n) in
      let long = length-map-range_with_len value 0 n in
      let there : (j d : ℕ) → j < n → get_or values j d ≡ value j = λ j d inside. get_or-map-range_with_len value 0 n j j d inside (zero-add j) in
      subst (HoldsFirst Before start n new) (sym (numbers_more n from value taken)) record {
        ones = λ j inside. ⊎_elim
            (λ is. Contains-append_left (start ∷ numbers) values (new j) (subst (Contains (start ∷ numbers)) (sym is) (held.ones j inside)))
            (λ is. Contains-append_right (start ∷ numbers) values (new j) (j, omega arith, there j (new j) inside ∙ sym is))
            (is_first j inside).0;
        first = All-append (AfterLane Before n new) numbers values
            (All-weaker (AfterLane Before n old) (AfterLane Before n new) (λ x (j, inside, before). (j, inside, through _ _ _ (is_first j inside).1 before)) numbers held.first)
            (λ k d lt. let inside : k < n = omega arith in (k, inside, subst (Before (new k)) (sym (there k d inside)) (is_first k inside).2));
      }

  -- of one lane more
  pub first_of_more : (m n : ℕ) (at : ℕ → ℕ) (x y : ℕ) → m < n → IsFirst Before x (at m) y
      → IsFirstSoFar Before m n at x → IsFirstSoFar Before (m + 1) n at y
  first_of_more m n at x y inside is_first is = record {
    one = ⊎_elim (λ old. let (j, within, same) = is.one in (j, within, old ∙ same)) (λ new. (m, inside, new)) is_first.0;
    before = below_more _ m (λ j below. through _ _ _ is_first.1 (is.before j below)) is_first.2;
  }

  module _ (same : (a b : ℕ) → Before a b → Before b a → a ≡ b) where
    -- the first of what the lanes have is the first of the numbers, each of which comes before the start
    first_of_all : (start n : ℕ) (at : ℕ → ℕ) (numbers : List ℕ) (x : ℕ)
        → 0 < length numbers → All (λ y. Before y start) numbers → HoldsFirst Before start n at numbers
        → IsFirstOf Before n at x → Contains numbers x × All (Before x) numbers
    first_of_all start n at numbers x some early held is =
        let all : All (Before x) numbers = All-weaker (AfterLane Before n at) (Before x) (λ y (k, within, first). through _ _ _ (is.before k within) first) numbers held.first in
        (found (subst (Contains (start ∷ numbers)) (sym is.one.2) (held.ones is.one.0 is.one.1)) all, all)
      where
        found : Contains (start ∷ numbers) x → All (Before x) numbers → Contains numbers x
        found (zero, inside, at_start) all = (0, some, same _ _ (subst (Before _) at_start (early 0 x some)) (all 0 x some))
        found (suc k, inside, at_one) all = (k, omega arith, at_one)

    -- so it is of the digits of a block, which were walked
    first_of_digits : (start t n lanes w : ℕ) (p : List ℕ) (at : ℕ → ℕ) (x : ℕ) → IsLayout t lanes → MakesGroups lanes n
        → ((y : ℕ) → y < 2 ^ w → Before y start) → HoldsFirst Before start n at (map (λ a. a.1) (walk_digits t n lanes w p))
        → IsFirstOf Before n at x → Contains (digits t lanes w p) x × All (Before x) (digits t lanes w p)
    first_of_digits start t n lanes w p at x layout groups early held is =
        let numbers : List ℕ = map (λ a. a.1) (walk_digits t n lanes w p) in
        let long : length numbers ≡ 1024 = simp (length-map, length-range_with_len) in
        let below : All (λ y. Before y start) numbers = All-map (λ y. Before y start) (λ a. a.1) (walk_digits t n lanes w p)
        (All-map (λ a. Before a.1 start) (λ i. (i, digit t lanes w p i)) (walk_places t n 1024) (λ k d lt. early _ (digit_below t lanes w p _))) in
        let back = IsPermutation-sym _ _ (walked_permutes t n lanes w p layout groups) in
        let (one, all) = first_of_all start n at numbers x (omega arith) below held is in
        (Contains-permutation numbers _ x back one, All-permutation (Before x) numbers _ back all)

-- the lesser of two numbers
lesser : (a b x : ℕ) → x ≡ min a b → IsFirst (λ x y. x ≤ y) a b x
lesser a b x is = (⊎_elim (λ less. inl (omega arith)) (λ more. inr (omega arith)) (cases_lt a b), omega arith, omega arith)

-- the greater of two numbers
greater : (a b x : ℕ) → x ≡ max a b → IsFirst (λ x y. y ≤ x) a b x
greater a b x is = (⊎_elim (λ less. inr (omega arith)) (λ more. inl (omega arith)) (cases_lt a b), omega arith, omega arith)

-- digits of at most 32 bits are the same in so many
pub short_digits : (n w : ℕ) (value low : ℕ → ℕ) → w ≤ 32 → LanesBelow n value (2 ^ w) → HasLanes n low (λ j. value j % 2 ^ 32) → HasLanes n low value
short_digits n w value low short below is =
    let fits : 2 ^ w ≤ 2 ^ 32 = pow-le-pow_right (omega arith) short in
    λ j inside. let small = below j inside in is j inside ∙ mod-eq_of_lt (omega (arith, fits, small))

-- the least numbers of lanes, with a row more
pub least_more : (t n from : ℕ) (old value new : ℕ → ℕ) (taken : List (ℕ × ℕ)) → HasLanes n new (λ j. min (old j) (value j))
    → HasLeast t n old taken → HasLeast t n new (taken ++ row_values n from value)
least_more t n from old value new taken has =
    taken_more (λ x y. x ≤ y) (λ a b c p q. omega arith) _ n from old value new taken (λ j inside. lesser _ _ _ (has j inside))

-- the greatest numbers of lanes, with a row more
pub greatest_more : (n from : ℕ) (old value new : ℕ → ℕ) (taken : List (ℕ × ℕ)) → HasLanes n new (λ j. max (old j) (value j))
    → HasGreatest n old taken → HasGreatest n new (taken ++ row_values n from value)
greatest_more n from old value new taken has =
    taken_more (λ x y. y ≤ x) (λ a b c p q. omega arith) _ n from old value new taken (λ j inside. greater _ _ _ (has j inside))

-- the least of what lanes have in the end, which began with 2 ^ s - 1
pub least_of_digits : (s t n lanes w : ℕ) (p : List ℕ) (at : ℕ → ℕ) (x : ℕ) → IsLayout t lanes → MakesGroups lanes n → w ≤ s
    → HasLeast s n at (walk_digits t n lanes w p) → IsFirstOf (λ x y. x ≤ y) n at x → IsLeast x (digits t lanes w p)
least_of_digits s t n lanes w p at x layout groups within held first =
    let fits : 2 ^ w ≤ 2 ^ s = pow-le-pow_right (omega arith) within in
    let (is, all) = first_of_digits (λ x y. x ≤ y) (λ a b c p q. omega arith) (λ a b p q. omega arith) _ t n lanes w p at x layout groups (λ y small. omega arith) held first in
    record { one = is; least = all }

-- the greatest of what lanes have in the end
pub greatest_of_digits : (t n lanes w : ℕ) (p : List ℕ) (at : ℕ → ℕ) (x : ℕ) → IsLayout t lanes → MakesGroups lanes n
    → HasGreatest n at (walk_digits t n lanes w p) → IsFirstOf (λ x y. y ≤ x) n at x → IsGreatest x (digits t lanes w p)
greatest_of_digits t n lanes w p at x layout groups held first =
    let (is, all) = first_of_digits (λ x y. y ≤ x) (λ a b c p q. omega arith) (λ a b p q. omega arith) _ t n lanes w p at x layout groups (λ y small. omega arith) held first in
    record { one = is; greatest = all }
