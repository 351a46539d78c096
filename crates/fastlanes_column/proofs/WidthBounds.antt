-- How many bits numbers need.
use Rattle.std.proofs.Common.{◌≡◌, ℕ, ◌+◌, ◌-◌, ◌*◌, ◌^◌, ◌<◌, ◌≤◌, ◌↔◌, List, [], ◌∷◌, ◌++◌, length, get_or, map, bit_or, refl, ap, sym, subst, ◌∙◌, take, add-one, arith, below_more, lit<, zero-add, ⊎_elim, max, min}
use Rattle.std.proofs.Math.Nat.{pow-suc, pow-le-pow_right}
use Rattle.std.proofs.lemmas.Bool.{cases_lt}
use Rattle.std.proofs.lemmas.List.{get_or_append_left, get_or_default, get_or_push, length_push, map_more, map_push}
use Rattle.std.proofs.lemmas.List.Elements.{All-from_get_or, All-nil, All-push}
use Rattle.std.proofs.lemmas.List.FromFn.{get_or-map-range_with_len, length-map-range_with_len}
use Rattle.std.proofs.lemmas.Nat.{le_or_l, le_or_r, leading_length, or_lt, pow_pos}
use Rattle.std.specs.List.{All, Contains, range_with_len, slice_index}
use Rattle.fastlanes.specs.Frame.{framed, word_difference}
use Rattle.fastlanes_column.specs.LeastWidth.{IsAsWide, IsGreatestOf, IsLeastOf, IsLeastWidth}
use lib.Count.{count_leading_zeros}

-- a number has at most w bits exactly where its leading zeros leave no more
pub leading_exact : (k a : ℕ) → a < 2 ^ k → (w : ℕ) → (a < 2 ^ w) ↔ (k - count_leading_zeros k a ≤ w)
leading_exact k a below w =
    let bits = leading_length k a below in
    let left : k - count_leading_zeros k a ≡ bits.0 = omega (arith, bits.1) in (
      λ small. rw left (⊎_elim
          (λ (wider : w < bits.0).
          let double : 2 ^ (w + 1) ≡ 2 ^ w * 2 = rw add-one (pow-suc 2 w) in
          let least : 2 ^ (w + 1) ≤ 2 ^ bits.0 = pow-le-pow_right (lit< tt) (omega arith) in
          absurd (omega (arith, bits.3)))
          (λ (fits : bits.0 ≤ w). fits)
          (cases_lt w bits.0)),
      λ fits.
          let most : 2 ^ bits.0 ≤ 2 ^ w = pow-le-pow_right (lit< tt) (omega arith) in
          omega (arith, bits.2),
    )

-- no numbers need no bits
pub as_wide_none : (x : ℕ) → x ≡ 0 → IsAsWide x []
as_wide_none x zero = λ w. (λ small. All-nil (λ y. y < 2 ^ w), λ all. rw zero (pow_pos w))

-- one number more
pub as_wide_push : (x y z : ℕ) (numbers : List ℕ) → z ≡ bit_or x y → IsAsWide x numbers → IsAsWide z (numbers ++ y ∷ [])
as_wide_push x y z numbers is wide = λ w. (
  λ small.
      let joined : bit_or x y < 2 ^ w = rw is at small in
      All-push (λ n. n < 2 ^ w) numbers y ((wide w).0 (omega (arith, le_or_l x y))) (omega (arith, le_or_r x y)),
  λ all.
      let before : All (λ n. n < 2 ^ w) numbers = λ k d inside.
      subst (λ (n : ℕ). n < 2 ^ w) (get_or_append_left numbers (y ∷ []) d k inside) (all k d (rw length_push (omega arith))) in
      let last : y < 2 ^ w = subst (λ (n : ℕ). n < 2 ^ w) (get_or_push numbers y 0 (length numbers) refl) (all (length numbers) 0 (rw length_push (omega arith))) in
      rw is (or_lt w x y ((wide w).1 before) last),
)

-- the difference of one word more
pub as_wide_word : {X : Type 0} (number : X → ℕ) (t reference : ℕ) (words : List X) (i : ℕ) (word : X) (x z : ℕ) → i < length words → word ≡ get_or words i word
    → z ≡ bit_or x (word_difference t (number word) reference) → IsAsWide x (framed t reference (map number (take i words)))
    → IsAsWide z (framed t reference (map number (take (i + 1) words)))
unfolding framed
as_wide_word number t reference words i word x z inside is joins wide =
    let before = map number (take i words) in
    let taken : map number (take (i + 1) words) ≡ before ++ number word ∷ [] = map_more number words i word inside ∙ ap (λ w. before ++ number w ∷ []) (sym is) in
    let grown : framed t reference (map number (take (i + 1) words)) ≡ framed t reference before ++ word_difference t (number word) reference ∷ [] =
    ap (framed t reference) taken ∙ map_push (λ y. word_difference t y reference) before (number word) in
    subst (IsAsWide z) (sym grown) (as_wide_push x (word_difference t (number word) reference) z (framed t reference before) joins wide)

-- x has a bit where one of n numbers has
abbrev pub IsAsWideBelow : ℕ → ℕ → (ℕ → ℕ) → Type 0
IsAsWideBelow x n number = (w : ℕ) → (x < 2 ^ w) ↔ ((k : ℕ) → k < n → number k < 2 ^ w)

-- none of them needs no bits
pub as_wide_nothing : (x : ℕ) (number : ℕ → ℕ) → x ≡ 0 → IsAsWideBelow x 0 number
as_wide_nothing x number zero = λ w. (λ small k inside. absurd (omega arith), λ all. rw zero (pow_pos w))

-- one number alone
pub as_wide_one : (x : ℕ) (number : ℕ → ℕ) → x ≡ number 0 → IsAsWideBelow x 1 number
as_wide_one x number is = λ w. (
  λ small k inside. let first : 0 ≡ k = omega arith in subst (λ (j : ℕ). number j < 2 ^ w) first (rw is at small),
  λ all. rw is (all 0 (lit< tt)),
)

-- the next number is joined
pub as_wide_next : (x y z n : ℕ) (number : ℕ → ℕ) → y ≡ number n → z ≡ bit_or x y → IsAsWideBelow x n number → IsAsWideBelow z (n + 1) number
as_wide_next x y z n number is joins wide = λ w. (
  λ small.
      let joined : bit_or x y < 2 ^ w = rw joins at small in
      let last : y < 2 ^ w = omega (arith, le_or_r x y) in
      below_more _ n ((wide w).0 (omega (arith, le_or_l x y))) (rw is at last),
  λ all. rw joins (or_lt w x y ((wide w).1 (λ k inside. all k (omega arith))) (rw is (all n (omega arith)))),
)

-- so it has a bit where one of a list has that these numbers make
pub as_wide_list : (x n : ℕ) (number : ℕ → ℕ) → IsAsWideBelow x n number → IsAsWide x (map number (range_with_len 0 n))
as_wide_list x n number wide = λ w.
    let long = length-map-range_with_len number 0 n in (
      λ small k d inside.
          let below : k < n = rw long at inside in
          subst (λ (y : ℕ). y < 2 ^ w) (sym (get_or-map-range_with_len number 0 n k k d below (zero-add k))) ((wide w).0 small k below),
      λ all. (wide w).1 (λ k below.
          let inside : k < length (map number (range_with_len 0 n)) = rw long below in
          subst (λ (y : ℕ). y < 2 ^ w) (get_or-map-range_with_len number 0 n k k 0 below (zero-add k)) (all k 0 inside)),
    )

-- how many bits it has is the least width of the list
pub least_width_of_joined : (x r : ℕ) (numbers : List ℕ) → ((w : ℕ) → (x < 2 ^ w) ↔ (r ≤ w)) → IsAsWide x numbers → IsLeastWidth r numbers
least_width_of_joined x r numbers exact wide = record {
  holds = (wide r).0 ((exact r).1 (omega arith));
  least = λ other fits. (exact other).0 ((wide other).1 fits);
}

-- x is one of the numbers, none of the first n is less, and each of these is below 2 ^ t
pub record IsLeastSoFar (t n x : ℕ) (numbers : List ℕ) : Type 0 where
  pub one : Contains numbers x
  pub least : (k : ℕ) → k < n → x ≤ slice_index numbers k
  pub below : (k : ℕ) → k < n → slice_index numbers k < 2 ^ t

-- the next number is the least so far, or it is not
pub least_takes : (t n x y : ℕ) (numbers : List ℕ) → IsLeastSoFar t n x numbers → n < length numbers
    → slice_index numbers n ≡ y → y < 2 ^ t → y < x → IsLeastSoFar t (n + 1) y numbers
least_takes t n x y numbers so_far inside is below less = record {
  one = (n, inside, get_or_default numbers n y 0 inside ∙ is);
  least = below_more _ _ (λ k before. omega (arith, so_far.least k before)) (omega arith);
  below = below_more _ _ so_far.below (rw is below);
}

pub least_keeps : (t n x y : ℕ) (numbers : List ℕ) → IsLeastSoFar t n x numbers → n < length numbers
    → slice_index numbers n ≡ y → y < 2 ^ t → x ≤ y → IsLeastSoFar t (n + 1) x numbers
least_keeps t n x y numbers so_far inside is below more = record {
  one = so_far.one;
  least = below_more _ _ so_far.least (rw is more);
  below = below_more _ _ so_far.below (rw is below);
}

-- at the end it is the least of all
pub least_of_all : (t n x : ℕ) (numbers : List ℕ) → IsLeastSoFar t n x numbers → length numbers ≤ n → IsLeastOf x numbers
least_of_all t n x numbers so_far all = record {
  one = so_far.one;
  least = All-from_get_or (λ y. x ≤ y) numbers 0 (λ k inside. so_far.least k (omega arith));
}

pub below_all : (t n x : ℕ) (numbers : List ℕ) → IsLeastSoFar t n x numbers → length numbers ≤ n → All (λ y. y < 2 ^ t) numbers
below_all t n x numbers so_far all = All-from_get_or (λ y. y < 2 ^ t) numbers 0 (λ k inside. so_far.below k (omega arith))

-- x is one of the numbers, and none of the first n is greater
pub record IsGreatestSoFar (n x : ℕ) (numbers : List ℕ) : Type 0 where
  pub one : Contains numbers x
  pub greatest : (k : ℕ) → k < n → slice_index numbers k ≤ x

-- with the next number
pub greatest_more : (n x y z : ℕ) (numbers : List ℕ) → IsGreatestSoFar n x numbers → n < length numbers → slice_index numbers n ≡ y
    → z ≡ max x y → IsGreatestSoFar (n + 1) z numbers
greatest_more n x y z numbers so_far inside is new = ⊎_elim
    (λ (less : x < y).
    let same : z ≡ y = omega arith in
    rw same record {
      one = (n, inside, get_or_default numbers n y 0 inside ∙ is);
      greatest = below_more _ n (λ k before. let small = so_far.greatest k before in omega arith) (omega arith);
    })
    (λ (more : y ≤ x).
    let same : z ≡ x = omega arith in
    rw same record { one = so_far.one; greatest = below_more _ n so_far.greatest (omega arith) })
    (cases_lt x y)

-- and of the least so far
pub least_more : (t n x y z : ℕ) (numbers : List ℕ) → IsLeastSoFar t n x numbers → n < length numbers → slice_index numbers n ≡ y → y < 2 ^ t
    → z ≡ min x y → IsLeastSoFar t (n + 1) z numbers
least_more t n x y z numbers so_far inside is below new = ⊎_elim
    (λ (less : y < x). let same : z ≡ y = omega arith in rw same (least_takes t n x y numbers so_far inside is below less))
    (λ (more : x ≤ y). let same : z ≡ x = omega arith in rw same (least_keeps t n x y numbers so_far inside is below more))
    (cases_lt y x)

-- at the end it is the greatest of all
pub greatest_of_all : (n x : ℕ) (numbers : List ℕ) → IsGreatestSoFar n x numbers → length numbers ≤ n → IsGreatestOf x numbers
greatest_of_all n x numbers so_far all = record {
  one = so_far.one;
  greatest = All-from_get_or (λ y. y ≤ x) numbers 0 (λ k inside. so_far.greatest k (omega arith));
}
