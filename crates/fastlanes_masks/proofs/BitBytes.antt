-- Bytes of a block, put together to words.
use Rattle.std.proofs.Common.{◌≡◌, ℕ, ◌+◌, ◌-◌, ◌*◌, ◌/◌, ◌%◌, ◌^◌, ◌<◌, ◌≤◌, List, slice_index, inl, inr, bit_or, arith, ap, sym, ◌∙◌, subst}
use Rattle.std.proofs.lemmas.Bool.{cases_lt}
use Rattle.std.proofs.lemmas.Nat.{shl_whole, pow-add, mul-le}
use Rattle.std.proofs.lemmas.Nat.Bits.{bit_at_cat_low, bit_at_cat_high}
use Rattle.std.specs.Int.Bits.{or_shifted_r}
use Rattle.std.specs.Int.{bit_at}
use Rattle.fastlanes_masks.specs.Bits.{GathersBytes, block_bit, block_byte}
use Rattle.fastlanes_masks.proofs.BitSwaps.{bit_at_low, bit_at_shr}

-- a byte put above the bits of a word
put_above : (word byte k : ℕ) → word < 2 ^ k → byte < 2 ^ 8 → 8 + k ≤ 64
    → bit_or word (byte * 2 ^ k % 2 ^ 64) ≡ byte * 2 ^ k + word
put_above word byte k low small fits = ap (λ n. bit_or word n) (shl_whole byte 8 k 64 small fits) ∙ or_shifted_r byte k word low

above_lt : (word byte k : ℕ) → word < 2 ^ k → byte < 2 ^ 8 → byte * 2 ^ k + word < 2 ^ (8 + k)
above_lt word byte k low small =
    omega (arith, mul-le (byte + 1) (2 ^ k) (2 ^ 8) (2 ^ k) (omega arith) (omega arith), pow-add 2 8 k)

pub bit_at_byte : (words : List ℕ) (n c : ℕ) → c < 8 → bit_at (block_byte words n) c ≡ block_bit words (8 * n + c)
bit_at_byte words n c in_byte =
    let word = slice_index words (n / 8) in
    let of_block : n / 8 ≡ (8 * n + c) / 64 = omega arith in
    let of_word : 8 * (n % 8) + c ≡ (8 * n + c) % 64 = omega arith in
    bit_at_low (word / 2 ^ (8 * (n % 8))) 8 c in_byte ∙ bit_at_shr word (8 * (n % 8)) c ∙ ap (λ b. bit_at word b) of_word
    ∙ ap (λ w. bit_at (slice_index words w) ((8 * n + c) % 64)) of_block

-- one more byte of a gathered word
pub gathers_more : (words : List ℕ) (at : ℕ → ℕ) (n word byte : ℕ) → n < 8 → GathersBytes words at n word
    → byte ≡ block_byte words (at n)
    → GathersBytes words at (n + 1) (bit_or word (byte * 2 ^ (8 * n) % 2 ^ 64))
gathers_more words at n word byte within so_far is =
    let small : byte < 2 ^ 8 = omega arith in
    let whole = put_above word byte (8 * n) so_far.below small (omega arith) in
    let wider : 8 + 8 * n ≡ 8 * (n + 1) = omega arith in
    subst (λ w. GathersBytes words at (n + 1) w) (sym whole) (record {
      below = subst (λ k. byte * 2 ^ (8 * n) + word < 2 ^ k) wider (above_lt word byte (8 * n) so_far.below small);
      each = λ j c in_word in_byte. elim (cases_lt j n) [
        | inl before ↦ bit_at_cat_low byte (8 * n) word (8 * j + c) (omega arith) ∙ so_far.each j c before in_byte
        | inr last ↦
            let same : n ≡ j = omega arith in
            let up : 8 * j + c - 8 * n ≡ c = omega arith in
            bit_at_cat_high byte (8 * n) word (8 * j + c) so_far.below (omega arith) ∙ ap (λ i. bit_at byte i) up
            ∙ ap (λ b. bit_at b c) (is ∙ ap (λ m. block_byte words (at m)) same)
            ∙ bit_at_byte words (at j) c in_byte
      ];
    })
