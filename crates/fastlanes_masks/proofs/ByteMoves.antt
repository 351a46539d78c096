-- What moving bytes, transposing groups of eight and moving bytes again does to the bits of a block.
use Rattle.std.proofs.Common.{◌≡◌, ℕ, ◌+◌, ◌-◌, ◌*◌, ◌/◌, ◌%◌, ◌<◌, List, ◌++◌, length, slice_index, inl, inr, ap, sym, ◌∙◌, arith}
use Rattle.std.proofs.lemmas.Bool.{cases_lt}
use Rattle.std.proofs.lemmas.List.{get_or_append_left, get_or-append_right}
use Rattle.std.specs.Int.{bit_at}
use Rattle.fastlanes_masks.specs.Bits.{Transposes8x8, block_bit, block_byte}
use Rattle.fastlanes_masks.specs.Bytes.{MovesByGroups, TransposesEach, TransposesGroups, TransposesHalf}
use Rattle.fastlanes_masks.proofs.BitBytes.{bit_at_byte}
use Rattle.fastlanes_masks.proofs.ByteTables.{ComesFromSource}

-- the groups of a block's halves
pub transposes_halves : (low high low' high' : List ℕ) → length low ≡ 64 → length low' ≡ 64
    → TransposesHalf low low' → TransposesHalf high high' → TransposesGroups (low ++ high) (low' ++ high')
transposes_halves low high low' high' long long' first second = record {
  each = λ g r c in_groups hr hc. elim (cases_lt g 8) [
    | inl below ↦
        ap (λ b. bit_at b r) (get_or_append_left low' high' 0 (8 * g + c) (omega (arith, long')))
        ∙ first.each g r c below hr hc
        ∙ sym (ap (λ b. bit_at b c) (get_or_append_left low high 0 (8 * g + r) (omega (arith, long))))
    | inr above ↦
        let down : 8 * g + c - 64 ≡ 8 * (g - 8) + c = omega arith in
        let down' : 8 * g + r - 64 ≡ 8 * (g - 8) + r = omega arith in
        ap (λ b. bit_at b r) (get_or-append_right low' high' 64 (8 * g + c) 0 long' (omega arith) ∙ ap (slice_index high') down)
        ∙ second.each (g - 8) r c (omega arith) hr hc
        ∙ sym (ap (λ b. bit_at b c) (get_or-append_right low high 64 (8 * g + r) 0 long (omega arith) ∙ ap (slice_index high) down'))
  ];
}

-- bit r of byte 8 * g + c of a block is in word g
pub bit_of_group : (words : List ℕ) (g r c : ℕ) → r < 8 → c < 8
    → bit_at (block_byte words (8 * g + c)) r ≡ bit_at (slice_index words g) (8 * c + r)
bit_of_group words g r c hr hc =
    let b = 8 * (8 * g + c) + r in
    let word : b / 64 ≡ g = omega arith in
    let bit : b % 64 ≡ 8 * c + r = omega arith in
    bit_at_byte words (8 * g + c) r hr ∙ ap (λ n. bit_at (slice_index words n) (b % 64)) word ∙ ap (λ n. bit_at (slice_index words g) n) bit

pub transposes_words : (from to xs ys : List ℕ) (k : ℕ) → ((n : ℕ) → n < 8 * k → block_byte xs n ≡ slice_index from n)
    → ((j : ℕ) → j < k → Transposes8x8 (slice_index xs j) (slice_index ys j))
    → ((n : ℕ) → n < 8 * k → slice_index to n ≡ block_byte ys n) → TransposesEach k from to
transposes_words from to xs ys k holds turned gives = record {
  each = λ g r c in_groups hr hc.
      ap (λ b. bit_at b r) (gives (8 * g + c) (omega arith)) ∙ bit_of_group ys g r c hr hc
      ∙ (turned g in_groups).each r c hr hc
      ∙ sym (bit_of_group xs g c r hc hr) ∙ ap (λ b. bit_at b c) (holds (8 * g + r) (omega arith));
}

-- a block whose bytes are moved, its groups transposed, and their bytes moved
pub moves_bits : (before after : ℕ → ℕ) (input bytes apart output : List ℕ)
    → ((n : ℕ) → n < 128 → slice_index bytes n ≡ block_byte input n)
    → MovesByGroups before after bytes apart
    → ((n : ℕ) → n < 128 → block_byte output n ≡ slice_index apart n)
    → ComesFromSource before after input output
moves_bits before after input bytes apart output holds moved gives b within =
    let n = b / 8 in
    let c = b % 8 in
    let m = after n in
    let m_within : m < 128 = moved.scattered.once.below n (omega arith) in
    let g = m / 8 in
    let r = m % 8 in
    let from = before (8 * g + c) in
    let from_within : from < 128 = moved.gathered.once.below (8 * g + c) (omega arith) in
    let bit : 8 * n + c ≡ b = omega arith in
    let byte : 8 * g + r ≡ m = omega arith in
    ap (block_bit output) (sym bit) ∙ sym (bit_at_byte output n c (omega arith))
    ∙ ap (λ x. bit_at x c) (gives n (omega arith) ∙ moved.scattered.each n (omega arith) ∙ ap (slice_index moved.turned) (sym byte))
    ∙ moved.transposed.each g c r (omega arith) (omega arith) (omega arith)
    ∙ ap (λ x. bit_at x r) (moved.gathered.each (8 * g + c) (omega arith) ∙ holds from from_within)
    ∙ bit_at_byte input from r (omega arith)
