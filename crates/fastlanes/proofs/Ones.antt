-- Lemmas on how many bits of a mask are ones, for who proves code on this crate. docs/PROVING.md has a sentence and a caller
-- for each.
use Rattle.std.proofs.Common.{◌≡◌, ◌≤◌, ◌<◌, ℕ, zero, suc, ◌+◌, ◌*◌, ◌/◌, ◌%◌, ◌^◌, Bool, List, cond, count_by, count_ones, sum_by, take, length, arith, ap, refl, sym, ◌∙◌, zero-add}
use Rattle.std.proofs.Math.Nat.{mod-eq_of_lt, pow-suc}
use Rattle.std.proofs.Math.Pow.{split}
use Rattle.std.proofs.lemmas.List.Folds.{fold-map}
use Rattle.std.proofs.lemmas.List.FromFn.{sum_by-map-range_with_len_more}
use Rattle.std.proofs.lemmas.List.Sums.{sum-map, sum_by_more}
use Rattle.std.proofs.lemmas.List.{take_all}
use Rattle.std.proofs.lemmas.Nat.Bits.{bit_at_cat_low}
use Rattle.std.proofs.lemmas.Nat.{div_below, mod_below, ones-le, ones_cat, pow_pos}
use Rattle.std.specs.Int.Count.{ones_step}
use Rattle.std.specs.Int.{bit_at}
use Rattle.std.specs.List.{range_with_len, slice_index}
use Rattle.fastlanes_base.specs.Digits.{digit, digits}
use Rattle.fastlanes_masks.specs.Bits.{IsBitBlock, block_bit}

-- a bit has itself as its number of ones
bit_ones : (a : ℕ) → a < 2 → count_ones a ≡ a
bit_ones a below =
    let rest : count_ones (a / 2) ≤ 0 = ones-le 0 (a / 2) (omega arith) in
    omega (arith, ones_step a, rest)

-- one more number is added up
sum_more : (at : ℕ → ℕ) (n : ℕ) → sum_by at (range_with_len 0 (n + 1)) ≡ sum_by at (range_with_len 0 n) + at n
sum_more at n =
    sym (sum-map at (range_with_len 0 (n + 1)))
    ∙ sum_by-map-range_with_len_more (λ (x : ℕ). x) at 0 n n (zero-add n)
    ∙ ap (λ s. s + at n) (sum-map at (range_with_len 0 n))

-- the k numbers from a on, where they are the bits of a number below 2 ^ k, add up to its ones
sum_bits : (k n a : ℕ) (at : ℕ → ℕ) → n < 2 ^ k → ((i : ℕ) → i < k → at (a + i) ≡ bit_at n i)
    → sum_by at (range_with_len 0 (a + k)) ≡ sum_by at (range_with_len 0 a) + count_ones n
sum_bits zero n a at below are =
    let ones : count_ones n ≤ 0 = ones-le 0 n below in
    let same : a + 0 ≡ a = omega arith in
    ap (λ j. sum_by at (range_with_len 0 j)) same ∙ omega (arith, ones)
sum_bits (suc k) n a at below are =
    let low = n % 2 ^ k in
    let high = n / 2 ^ k in
    let parts : high * 2 ^ k + low ≡ n = split n k in
    let low_below : low < 2 ^ k = mod_below n (2 ^ k) (pow_pos k) in
    let bit : high < 2 = div_below n (2 ^ k) 2 (pow_pos k) (omega (arith, below, pow-suc 2 k)) in
    let before : sum_by at (range_with_len 0 (a + k)) ≡ sum_by at (range_with_len 0 a) + count_ones low =
    sum_bits k low a at low_below (λ i inside. are i (omega arith) ∙ ap (λ x. bit_at x i) (sym parts) ∙ bit_at_cat_low high k low i inside)
    in
    let last : at (a + k) ≡ high = are k (omega arith) ∙ mod-eq_of_lt bit in
    let ones : count_ones n ≡ high + count_ones low =
    ap count_ones (sym parts) ∙ ones_cat k high low low_below ∙ ap (λ x. x + count_ones low) (bit_ones high bit)
    in
    let one_more : a + suc k ≡ a + k + 1 = omega arith in
    ap (λ j. sum_by at (range_with_len 0 j)) one_more ∙ sum_more at (a + k) ∙ omega (arith, before, last, ones)

-- the bits of the first words of a block add up to their ones
sum_words : (words : List ℕ) (at : ℕ → ℕ) (m : ℕ) → IsBitBlock words → m ≤ 16 → ((i : ℕ) → i < 1024 → at i ≡ block_bit words i)
    → sum_by at (range_with_len 0 (64 * m)) ≡ sum_by count_ones (take m words)
sum_words words at zero block within are = refl
sum_words words at (suc m) block within are =
    let word = slice_index words m in
    let more : 64 * suc m ≡ 64 * m + 64 = omega arith in
    let next : m + 1 ≡ suc m = omega arith in
    let bit = λ (i : ℕ) (inside : i < 64).
    let high : (64 * m + i) / 64 ≡ m = omega arith in
    let low : (64 * m + i) % 64 ≡ i = omega arith in
    are (64 * m + i) (omega arith)
    ∙ ap (λ (k : ℕ). bit_at (slice_index words k) ((64 * m + i) % 64)) high ∙ ap (bit_at word) low
    in
    ap (λ j. sum_by at (range_with_len 0 j)) more
    ∙ sum_bits 64 word (64 * m) at (block.small m (omega arith)) bit
    ∙ ap (λ s. s + count_ones word) (sum_words words at m block (omega arith) are)
    ∙ sym (sum_by_more count_ones words m 0 (omega (arith, block.long)))
    ∙ ap (λ j. sum_by count_ones (take j words)) next

-- a mask whose bits tell where a test holds has as many ones as there are such places
pub ones_of_places : (test : ℕ → Bool) (words : List ℕ) → IsBitBlock words
    → ((i : ℕ) → i < 1024 → block_bit words i ≡ cond (test i) 1 0) → sum_by count_ones words ≡ count_by test (range_with_len 0 1024)
ones_of_places test words block tells =
    ap (sum_by count_ones) (sym (take_all 16 words (omega (arith, block.long))))
    ∙ sym (sum_words words (λ i. cond (test i) 1 0) 16 block (omega arith) (λ i in_block. sym (tells i in_block)))

-- as many digits of a block pass a test as places have one that does
pub count_digits : (test : ℕ → Bool) (t lanes w : ℕ) (p : List ℕ)
    → count_by test (digits t lanes w p) ≡ count_by (λ i. test (digit t lanes w p i)) (range_with_len 0 1024)
unfolding digits
count_digits test t lanes w p = fold-map (λ n x. n + cond (test x) 1 0) (digit t lanes w p) 0 (range_with_len 0 1024)

-- a mask whose bits tell which digits pass a test has as many ones as there are such digits
pub ones_of_digits : (test : ℕ → Bool) (t lanes w : ℕ) (p words : List ℕ) → IsBitBlock words
    → ((i : ℕ) → i < 1024 → block_bit words i ≡ cond (test (digit t lanes w p i)) 1 0)
    → sum_by count_ones words ≡ count_by test (digits t lanes w p)
ones_of_digits test t lanes w p words block tells =
    ones_of_places (λ i. test (digit t lanes w p i)) words block tells ∙ sym (count_digits test t lanes w p)
