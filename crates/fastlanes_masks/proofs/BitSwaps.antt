-- A masked swap takes each bit from one place, and three of them transpose eight rows of eight bits.
use Rattle.std.proofs.Common.{◌≡◌, ℕ, zero, suc, ◌+◌, ◌-◌, ◌*◌, ◌/◌, ◌%◌, ◌^◌, ◌<◌, ◌≤◌, Bool, true, ◌&&◌, nat_eq, nat_lt, min, inl, inr, bit_and, bit_xor, refl, ap, sym, ◌∙◌, arith}
use Rattle.std.proofs.lemmas.Bool.{agree_below_at, and_parts, cases_lt, eqb-true, ltb-true}
use Rattle.std.proofs.lemmas.Nat.{pow_pos, shr-shr, shr_split}
use Rattle.std.proofs.lemmas.Nat.Bits.{bit_at-lt, bit_at-zero, bit_at_and, bit_at_cat_high, bit_at_cat_low, bit_at_xor}
use Rattle.std.proofs.Math.Nat.{add-zero}
use Rattle.std.specs.Int.{bit_at}
use Rattle.fastlanes_masks.specs.Bits.{Transposes8x8, swapped}

pub bit_at_shr : (x d i : ℕ) → bit_at (x / 2 ^ d) i ≡ bit_at x (d + i)
bit_at_shr x d i = ap (λ n. n % 2) (shr-shr x d i)

pub bit_at_low : (x k i : ℕ) → i < k → bit_at (x % 2 ^ k) i ≡ bit_at x i
bit_at_low x k i h = sym (bit_at_cat_low (x / 2 ^ k) k (x % 2 ^ k) i h) ∙ ap (λ n. bit_at n i) (shr_split x k)

bit_at_shl_below : (x d i : ℕ) → i < d → bit_at (x * 2 ^ d) i ≡ 0
bit_at_shl_below x d i h = ap (λ n. bit_at n i) (sym (add-zero (x * 2 ^ d))) ∙ bit_at_cat_low x d 0 i h ∙ bit_at-zero i

bit_at_shl_above : (x d i : ℕ) → d ≤ i → bit_at (x * 2 ^ d) i ≡ bit_at x (i - d)
bit_at_shl_above x d i h = ap (λ n. bit_at n i) (sym (add-zero (x * 2 ^ d))) ∙ bit_at_cat_high x d 0 i (pow_pos d) h

-- where bit i of a swap comes from, `high` and `low` being the bits at i of the mask and of the mask moved up by d
abbrev source : (d i high low : ℕ) → ℕ
source d i zero zero = i
source d i zero (suc low) = i - d
source d i (suc high) low = d + i

at_source : (bit : ℕ → ℕ) (d i high low : ℕ) → ((j : ℕ) → bit j < 2) → high < 2 → low < 2 → min high low ≡ 0
    → ((bit i + min ((bit i + bit (d + i)) % 2) high) % 2 + min ((bit (i - d) + bit i) % 2) low) % 2
    ≡ bit (source d i high low)
at_source bit d i zero zero small high_bit low_bit apart = omega (arith, small i)
at_source bit d i zero (suc low) small high_bit low_bit apart = omega (arith, small i, small (i - d))
at_source bit d i (suc high) low small high_bit low_bit apart = omega (arith, small i, small (d + i))

-- the differing bits that a swap finds
differing : (d m x i : ℕ)
    → bit_at (bit_and (bit_xor x (x / 2 ^ d)) m) i ≡ min ((bit_at x i + bit_at x (d + i)) % 2) (bit_at m i)
differing d m x i =
    bit_at_and (bit_xor x (x / 2 ^ d)) m i
    ∙ ap (λ n. min n (bit_at m i)) (bit_at_xor x (x / 2 ^ d) i ∙ ap (λ n. (bit_at x i + n) % 2) (bit_at_shr x d i))

moved_up : (d m x i : ℕ)
    → bit_at (bit_and (bit_xor x (x / 2 ^ d)) m * 2 ^ d) i ≡ min ((bit_at x (i - d) + bit_at x i) % 2) (bit_at (m * 2 ^ d) i)
moved_up d m x i = elim (cases_lt i d) [
  | inl below ↦ let none = bit_at_shl_below m d i below in
      bit_at_shl_below (bit_and (bit_xor x (x / 2 ^ d)) m) d i below ∙ (omega arith)
  | inr above ↦ let back : d + (i - d) ≡ i = omega arith in
      bit_at_shl_above (bit_and (bit_xor x (x / 2 ^ d)) m) d i above ∙ differing d m x (i - d)
      ∙ ap (λ n. min ((bit_at x (i - d) + bit_at x n) % 2) (bit_at m (i - d))) back
      ∙ ap (λ n. min ((bit_at x (i - d) + bit_at x i) % 2) n) (sym (bit_at_shl_above m d i above))
]

abbrev swap_source : ℕ → ℕ → ℕ → ℕ
swap_source d m i = source d i (bit_at m i) (bit_at (m * 2 ^ d) i)

-- no bit is both taken from above and from below
abbrev is_apart : ℕ → ℕ → ℕ → Bool
is_apart d m i = nat_eq (min (bit_at m i) (bit_at (m * 2 ^ d) i)) 0

bit_at_swapped : (d m x i : ℕ) → i < 64 → is_apart d m i ≡ true → bit_at (swapped d m x) i ≡ bit_at x (swap_source d m i)
unfolding swapped
bit_at_swapped d m x i within apart =
    let t = bit_and (bit_xor x (x / 2 ^ d)) m in
    bit_at_xor (bit_xor x t) (t * 2 ^ d % 2 ^ 64) i
    ∙ ap (λ n. (n + bit_at (t * 2 ^ d % 2 ^ 64) i) % 2) (bit_at_xor x t i ∙ ap (λ n. (bit_at x i + n) % 2) (differing d m x i))
    ∙ ap (λ n. ((bit_at x i + min ((bit_at x i + bit_at x (d + i)) % 2) (bit_at m i)) % 2 + n) % 2)
    (bit_at_low (t * 2 ^ d) 64 i within ∙ moved_up d m x i)
    ∙ at_source (bit_at x) d i (bit_at m i) (bit_at (m * 2 ^ d) i) (bit_at-lt x) (bit_at-lt m i) (bit_at-lt (m * 2 ^ d) i) (eqb-true _ _ apart)

abbrev mask7 : ℕ
mask7 = 0x00AA00AA00AA00AA

abbrev mask14 : ℕ
mask14 = 0x0000CCCC0000CCCC

abbrev mask28 : ℕ
mask28 = 0x00000000F0F0F0F0

-- bit i of the three swaps comes from the bit with its row and column exchanged
abbrev is_exchanged : ℕ → Bool
is_exchanged i =
    let j = swap_source 28 mask28 i in
    let k = swap_source 14 mask14 j in
    (is_apart 28 mask28 i && is_apart 14 mask14 j && is_apart 7 mask7 k)
    && (nat_lt j 64 && nat_lt k 64 && nat_eq (swap_source 7 mask7 k) (8 * (i % 8) + i / 8))

all_exchanged : (i : ℕ) → i < 64 → is_exchanged i ≡ true
all_exchanged i h = agree_below_at is_exchanged (λ _. true) 64 i refl h

pub transposes_by_swaps : (x : ℕ) → Transposes8x8 x (swapped 28 mask28 (swapped 14 mask14 (swapped 7 mask7 x)))
transposes_by_swaps x = record {
  each = λ r c hr hc.
      let i = 8 * c + r in
      let j = swap_source 28 mask28 i in
      let k = swap_source 14 mask14 j in
      let within : i < 64 = omega arith in
      let parts = and_parts _ _ (all_exchanged i within) in
      let apart = and_parts _ _ parts.0 in
      let places = and_parts _ _ parts.1 in
      bit_at_swapped 28 mask28 (swapped 14 mask14 (swapped 7 mask7 x)) i within (and_parts _ _ apart.0).0
      ∙ bit_at_swapped 14 mask14 (swapped 7 mask7 x) j (ltb-true _ _ (and_parts _ _ places.0).0) (and_parts _ _ apart.0).1
      ∙ bit_at_swapped 7 mask7 x k (ltb-true _ _ (and_parts _ _ places.0).1) apart.1
      ∙ ap (λ n. bit_at x n) (eqb-true _ _ places.1)
      ∙ ap (λ n. bit_at x n) (let same : 8 * (i % 8) + i / 8 ≡ 8 * r + c = omega arith in same);
}
