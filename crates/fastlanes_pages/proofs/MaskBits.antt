-- Masks, bit by bit.
use Rattle.std.proofs.Common.{◌≡◌, ℕ, ◌+◌, ◌-◌, ◌*◌, ◌/◌, ◌%◌, ◌^◌, ◌<◌, ◌≤◌, ◌∙◌, Bool, List, zero, suc, ap, arith, cond, count_ones, get_or, if◌then◌else◌, inl, inr, length, min, nat_eq, refl, replicate, set, sum_by, sym, take, zero-add, ◌≢◌, get_or-set_other, get_or-set_same}
use Rattle.std.proofs.Math.Nat.{pow-le-pow_right}
use Rattle.std.proofs.lemmas.Bool.{cases_eq, cases_lt}
use Rattle.std.proofs.lemmas.List.{get_or-replicate, get_or-take, get_or_past, length-take, take_all}
use Rattle.std.proofs.lemmas.List.Elements.{All-get_or}
use Rattle.std.proofs.lemmas.List.FromFn.{sum_by-map-range_with_len_more}
use Rattle.std.proofs.lemmas.List.Sums.{sum-map, sum_by_more}
use Rattle.std.proofs.lemmas.Nat.{div_below, mod_below, pow_pos, shr_split}
use Rattle.std.proofs.lemmas.Nat.Bits.{bit_at-zero, bit_at_cat_low}
use Rattle.std.specs.Int.{bit_at}
use Rattle.std.specs.List.{All, range_with_len, slice_index}
use Rattle.fastlanes.proofs.Ones.{ones_of_places}
use Rattle.fastlanes.specs.Bits.{IsBitBlock, block_bit}
use Rattle.fastlanes_pages.specs.Masks.{IsMask, count_where}

-- a mask has no bits behind its words
pub past_end : (mask : List ℕ) (i : ℕ) → length mask ≡ 16 → 1024 ≤ i → block_bit mask i ≡ 0
past_end mask i long past = ap (λ w. bit_at w (i % 64)) (get_or_past mask (i / 64) 0 (omega arith)) ∙ bit_at-zero (i % 64)

-- a mask of 1024 values
pub mask_of : (test : ℕ → Bool) (values mask : List ℕ) → length values ≡ 1024 → length mask ≡ 16
    → ((i : ℕ) → i < 1024 → block_bit mask i ≡ (if test (slice_index values i) then 1 else 0)) → IsMask test values mask
mask_of test values mask count long bits = record {
  room = omega arith;
  each = λ i below. bits i (omega arith);
  others = λ i past. past_end mask i long (omega arith);
}

-- the same bit for each of them
pub filled : (test : ℕ → Bool) (values : List ℕ) (answer : Bool) (word : ℕ) → length values ≡ 1024 → All (λ x. test x ≡ answer) values
    → ((k : ℕ) → k < 64 → bit_at word k ≡ (if answer then 1 else 0)) → IsMask test values (replicate 16 word)
filled test values answer word count all bits =
    mask_of test values (replicate 16 word) count refl (λ i below.
    ap (λ w. bit_at w (i % 64)) (get_or-replicate 16 (i / 64) word 0 (omega arith)) ∙ bits (i % 64) (omega arith)
    ∙ ap (λ (b : Bool). if b then 1 else 0) (sym (All-get_or (λ x. test x ≡ answer) values i 0 (omega arith) all)))

-- Bits that are taken out.

-- the bits of a word that was put in, and those of the others
set_here : (mask : List ℕ) (k word i : ℕ) → k < length mask → i / 64 ≡ k → block_bit (set mask k word) i ≡ bit_at word (i % 64)
set_here mask k word i inside here =
    ap (λ n. bit_at (get_or (set mask k word) n 0) (i % 64)) here ∙ ap (λ w. bit_at w (i % 64)) (get_or-set_same mask k word 0 inside)

set_elsewhere : (mask : List ℕ) (k word i : ℕ) → i / 64 ≢ k → block_bit (set mask k word) i ≡ block_bit mask i
set_elsewhere mask k word i other = ap (λ w. bit_at w (i % 64)) (get_or-set_other mask k (i / 64) word 0 other)

-- what is left of a word
low_kept : (word r k : ℕ) → k < r → bit_at (word % 2 ^ r) k ≡ bit_at word k
low_kept word r k below = sym (bit_at_cat_low (word / 2 ^ r) r (word % 2 ^ r) k below) ∙ ap (λ n. bit_at n k) (shr_split word r)

high_gone : (word r k : ℕ) → r ≤ k → bit_at (word % 2 ^ r) k ≡ 0
high_gone word r k above =
    let less : word % 2 ^ r < 2 ^ r = mod_below word (2 ^ r) (pow_pos r) in
    let more : 2 ^ r ≤ 2 ^ k = pow-le-pow_right (omega arith) above in
    let none : word % 2 ^ r / 2 ^ k < 1 = div_below (word % 2 ^ r) (2 ^ k) 1 (pow_pos k) (omega arith) in
    omega arith

-- a mask whose word with the place keeps the bits below it, and no others
pub cut : (mask after : List ℕ) (len word : ℕ) → after ≡ set mask (len / 64) word → word ≡ slice_index mask (len / 64) % 2 ^ (len % 64)
    → length mask ≡ 16 → len < 1024
    → ((i : ℕ) → i < len → block_bit after i ≡ block_bit mask i) × ((i : ℕ) → len ≤ i → i < 64 * (len / 64 + 1) → block_bit after i ≡ 0)
cut mask after len word put is long room =
    let here : (i : ℕ) → i / 64 ≡ len / 64 → block_bit after i ≡ bit_at (slice_index mask (len / 64) % 2 ^ (len % 64)) (i % 64) = λ i same.
    ap (λ m. block_bit m i) put ∙ set_here mask (len / 64) word i (omega arith) same ∙ ap (λ n. bit_at n (i % 64)) is
    in (
      λ i below. elim (cases_eq (i / 64) (len / 64)) [
        | inl same ↦ here i same ∙ low_kept (slice_index mask (len / 64)) (len % 64) (i % 64) (omega arith)
            ∙ ap (λ n. bit_at (get_or mask n 0) (i % 64)) (sym same)
        | inr other ↦ ap (λ m. block_bit m i) put ∙ set_elsewhere mask (len / 64) word i other
      ],
      λ i above inside.
          let same : i / 64 ≡ len / 64 = omega arith in
          here i same ∙ high_gone (slice_index mask (len / 64)) (len % 64) (i % 64) (omega arith),
    )

-- a word without bits
pub cleared_before : (mask : List ℕ) (k i : ℕ) → i < 64 * k → block_bit (set mask k 0) i ≡ block_bit mask i
cleared_before mask k i before =
    let other : i / 64 ≢ k = omega arith in
    set_elsewhere mask k 0 i other

pub cleared_here : (mask : List ℕ) (k i : ℕ) → k < length mask → 64 * k ≤ i → i < 64 * (k + 1) → block_bit (set mask k 0) i ≡ 0
cleared_here mask k i inside from until =
    let here : i / 64 ≡ k = omega arith in
    set_here mask k 0 i inside here ∙ bit_at-zero (i % 64)

-- a mask of the first values
pub mask_of_first : (test : ℕ → Bool) (values before after : List ℕ) (len : ℕ) → length before ≡ 16 → length after ≡ 16
    → ((i : ℕ) → i < len → block_bit after i ≡ block_bit before i) → ((i : ℕ) → len ≤ i → i < 1024 → block_bit after i ≡ 0)
    → IsMask test values before → IsMask test (take len values) after
mask_of_first test values before after len first second kept gone mask =
    let count : length (take len values) ≡ min len (length values) = length-take len values in
    record {
      room = omega (arith, count, mask.room);
      each = λ i below. kept i (omega (arith, count)) ∙ mask.each i (omega (arith, count))
          ∙ ap (λ (x : ℕ). if test x then 1 else 0) (sym (get_or-take len values i 0 (omega (arith, count))));
      others = λ i past. elim (cases_lt i len) [
        | inl below ↦ kept i below ∙ mask.others i (omega (arith, count))
        | inr above ↦ elim (cases_lt i 1024) [
          | inl inside ↦ gone i above inside
          | inr outside ↦ past_end after i second outside
        ]
      ];
    }

-- Bits that are counted.

-- one more number is added up
sum_more : (at : ℕ → ℕ) (n : ℕ) → sum_by at (range_with_len 0 (n + 1)) ≡ sum_by at (range_with_len 0 n) + at n
sum_more at n =
    sym (sum-map at (range_with_len 0 (n + 1)))
    ∙ sum_by-map-range_with_len_more (λ (x : ℕ). x) at 0 n n (zero-add n)
    ∙ ap (λ s. s + at n) (sum-map at (range_with_len 0 n))

-- a bit is 1 or 0
bit_is : (b : ℕ) → b < 2 → b ≡ cond (nat_eq b 1) 1 0
bit_is zero small = refl
bit_is (suc zero) small = refl
bit_is (suc (suc b)) small = absurd (omega arith)

module _ (test : ℕ → Bool) (values mask : List ℕ) (is : IsMask test values mask) where
  tells : (i : ℕ) → block_bit mask i ≡ cond (nat_eq (block_bit mask i) 1) 1 0
  tells i = bit_is (block_bit mask i) (omega arith)

  -- the bits of the first values
  count_first : (n : ℕ) → n ≤ length values
      → sum_by (λ i. cond (nat_eq (block_bit mask i) 1) 1 0) (range_with_len 0 n) ≡ sum_by (λ x. if test x then 1 else 0) (take n values)
  count_first zero within = refl
  count_first (suc n) within =
      let next : suc n ≡ n + 1 = omega arith in
      ap (λ m. sum_by (λ i. cond (nat_eq (block_bit mask i) 1) 1 0) (range_with_len 0 m)) next
      ∙ sum_more (λ i. cond (nat_eq (block_bit mask i) 1) 1 0) n
      ∙ ap (λ s. s + cond (nat_eq (block_bit mask n) 1) 1 0) (count_first n (omega arith))
      ∙ ap (λ b. sum_by (λ (x : ℕ). if test x then 1 else 0) (take n values) + b) (sym (tells n) ∙ is.each n (omega arith))
      ∙ sym (sum_by_more (λ (x : ℕ). if test x then 1 else 0) values n 0 (omega arith))
      ∙ ap (λ m. sum_by (λ (x : ℕ). if test x then 1 else 0) (take m values)) (sym next)

  -- there are no others
  count_all : (m : ℕ) → sum_by (λ i. cond (nat_eq (block_bit mask i) 1) 1 0) (range_with_len 0 (length values + m)) ≡ count_where test values
  count_all zero =
      let none : length values + 0 ≡ length values = omega arith in
      ap (λ n. sum_by (λ i. cond (nat_eq (block_bit mask i) 1) 1 0) (range_with_len 0 n)) none
      ∙ count_first (length values) (omega arith)
      ∙ ap (sum_by (λ (x : ℕ). if test x then 1 else 0)) (take_all (length values) values (omega arith))
  count_all (suc m) =
      let next : length values + suc m ≡ length values + m + 1 = omega arith in
      let here : cond (nat_eq (block_bit mask (length values + m)) 1) 1 0 ≡ 0 = sym (tells (length values + m)) ∙ is.others (length values + m) (omega arith) in
      ap (λ n. sum_by (λ i. cond (nat_eq (block_bit mask i) 1) 1 0) (range_with_len 0 n)) next
      ∙ sum_more (λ i. cond (nat_eq (block_bit mask i) 1) 1 0) (length values + m)
      ∙ omega (arith, here, count_all m)

  -- the ones of the words are the values of which the test holds
  pub ones_counted : IsBitBlock mask → sum_by count_ones mask ≡ count_where test values
  ones_counted block =
      let all : 1024 ≡ length values + (1024 - length values) = omega (arith, is.room, block.long) in
      ones_of_places (λ i. nat_eq (block_bit mask i) 1) mask block (λ i inside. tells i)
      ∙ ap (λ n. sum_by (λ i. cond (nat_eq (block_bit mask i) 1) 1 0) (range_with_len 0 n)) all
      ∙ count_all (1024 - length values)
