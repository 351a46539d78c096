-- Lemmas for who proves code on this crate. docs/PROVING.md has a sentence and a caller for each.
use Rattle.std.proofs.Common.{◌≡◌, ◌⊎◌, ℕ, ◌+◌, ◌-◌, ◌*◌, ◌/◌, ◌%◌, ◌^◌, ◌<◌, ◌≤◌, List, zero, suc, length, ap, sym, ◌∙◌, arith, inl, inr, refl}
use Rattle.std.proofs.Math.Nat.{mod-one, mul-le-mul_right}
use Rattle.std.proofs.lemmas.Bool.{cases_lt}
use Rattle.std.proofs.lemmas.Nat.{div_below, mod_below, pow_pos}
use Rattle.std.specs.List.{All, slice_index}
use Rattle.fastlanes_base.specs.Digits.{digit, digits, lane_number, row_digit}
use Rattle.fastlanes_base.specs.Element.{IsLayout}
use Rattle.fastlanes_base.specs.Order.{place, transposed_index}
use Rattle.fastlanes_packing.specs.Packing.{low_bits}
use Rattle.fastlanes.proofs.Deltas.{low_bits-below}
use Rattle.fastlanes.proofs.Framing.{slice_index-digits}
use Rattle.fastlanes.proofs.Transposing.{transposed-untransposed, transposed_index-lane, transposed_index-place}
use Rattle.fastlanes.specs.Frame.{NearOnesComeBack, word_difference, word_sum}
use Rattle.fastlanes.specs.Transposition.{transposed, untransposed}
use Rattle.fastlanes_masks.specs.Bits.{UntransposesBits, block_bit}
use Rattle.fastlanes_masks.proofs.BitBlocks.{same_from_untransposed, untransposed_at_64}
use Rattle.fastlanes_rows.specs.Rows.{joined_bits, words_begun}
use Rattle.fastlanes_rows.proofs.Begun.{begun_one, begun_part, begun_two, begun_whole}
use Rattle.fastlanes_rows.proofs.RowDigits.{first_below, high_drops, in_one, in_two, next_below, row_start}

-- the layouts of the narrower types; that of 64 bits is in Places
pub layout_8 : IsLayout 8 128
layout_8 = record { size = inl refl; area = refl }

pub layout_16 : IsLayout 16 64
layout_16 = record { size = inr (inl refl); area = refl }

pub layout_32 : IsLayout 32 32
layout_32 = record { size = inr (inr (inl refl)); area = refl }

-- the rows of a lane of a transposed block stood beside one another
pub neighbours_of_a_lane : (t lanes row lane : ℕ) → IsLayout t lanes → row < t → lane < lanes
    → transposed_index (place row lane) ≡ transposed_index lane + row
neighbours_of_a_lane t lanes row lane layout in_rows in_lanes = transposed_index-place t lanes row lane layout in_rows in_lanes

-- from a multiple of their number on
pub neighbours_from_a_multiple : (t lanes lane : ℕ) → IsLayout t lanes → lane < lanes → transposed_index lane % t ≡ 0
neighbours_from_a_multiple t lanes lane layout in_lanes = transposed_index-lane t lanes lane layout in_lanes

-- blocks of bits that are the same block's transposes are the same
pub same_transposes : (t lanes : ℕ) (input xs ys : List ℕ) → IsLayout t lanes
    → UntransposesBits t lanes input xs → UntransposesBits t lanes input ys → xs ≡ ys
same_transposes t lanes input xs ys layout to_xs to_ys = same_from_untransposed t lanes input xs ys layout to_xs to_ys

-- at 64 bits untransposing takes each bit to the transposed index of its place
pub bit_untransposed_at_64 : (input output : List ℕ) (i : ℕ) → i < 1024 → UntransposesBits 64 16 input output
    → block_bit output (transposed_index i) ≡ block_bit input i
bit_untransposed_at_64 input output i in_block moved = untransposed_at_64 input output i in_block moved

-- numbers that have at most w bits are what is left of them at the width w
pub small_numbers_stay : (w : ℕ) (v : List ℕ) → All (λ x. x < 2 ^ w) v → low_bits w v ≡ v
small_numbers_stay w v below = low_bits-below w v below

-- an element of the list of all digits is the digit at its place
pub element_of_digits : (t lanes w : ℕ) (p : List ℕ) (i : ℕ) → i < 1024 → slice_index (digits t lanes w p) i ≡ digit t lanes w p i
element_of_digits t lanes w p i in_block = slice_index-digits t lanes w p i in_block

-- an element that lies near the reference is the sum of its digit and the reference
pub near_element : (t lanes w reference : ℕ) (v p : List ℕ) (i d sum : ℕ)
    → NearOnesComeBack t lanes w reference v p → i < 1024 → word_difference t (slice_index v i) reference < 2 ^ w
    → d ≡ digit t lanes w p i → sum ≡ word_sum t d reference → sum ≡ slice_index v i
near_element t lanes w reference v p i d sum back in_block near is adds =
    adds ∙ ap (λ (x : ℕ). word_sum t x reference) is ∙ (back i in_block).1 near

-- a block that is untransposed and transposed again is the block
pub transposed_again : (v : List ℕ) → length v ≡ 1024 → transposed (untransposed v) ≡ v
transposed_again v long = transposed-untransposed v long

-- the digit of a row is its bits of the word in which they begin, joined with the lane's next word where they go on there
pub digit_of_two_words : (t lanes w lane row lo hi : ℕ) (p : List ℕ) → row < t → w ≤ t
    → (0 < w → lo ≡ slice_index p (lanes * (row * w / t) + lane) % 2 ^ t)
    → (t < row * w % t + w → hi ≡ slice_index p (lanes * (row * w / t + 1) + lane) % 2 ^ t)
    → joined_bits t w (row * w % t) lo hi ≡ row_digit t lanes w p lane row
digit_of_two_words t lanes zero lane row lo hi p in_rows narrow first next = mod-one _ ∙ sym (mod-one _)
digit_of_two_words t lanes (suc v) lane row lo hi p in_rows narrow first next =
    let w = suc v in
    let some : 0 < t = omega arith in
    let k = row * w / t in
    let s = row * w % t in
    let word = λ (k : ℕ). slice_index p (lanes * k + lane) % 2 ^ t in
    let low : s < t = mod_below (row * w) t some in
    let begins : joined_bits t w s lo hi ≡ joined_bits t w s (word k) hi = ap (λ (x : ℕ). joined_bits t w s x hi) (first (omega arith)) in
    begins
    ∙ elim (cases_lt t (s + w)) [
      | inl more ↦
          ap (λ (x : ℕ). joined_bits t w s (word k) x) (next more)
          ∙ sym (in_two t word k w s w (next_below t w row some in_rows more) (λ j before. mod_below _ (2 ^ t) (pow_pos t)) (omega arith))
      | inr fits ↦
          high_drops (word k) hi t s w (omega arith)
          ∙ sym (in_one t word k w s w (first_below t w row some in_rows (omega arith)) (λ j before. mod_below _ (2 ^ t) (pow_pos t)) (omega arith))
    ]
    ∙ ap (λ (x : ℕ). lane_number t lanes w lane p / x % 2 ^ w) (sym (row_start t w row))

-- the rows of a lane reach into no more words than it has
pub words_begun_within : (t w row : ℕ) → 0 < t → row ≤ t → words_begun t w row ≤ w
words_begun_within t w row some within =
    let rows : row * w ≤ t * w = mul-le-mul_right w within in
    let below : words_begun t w row < w + 1 = div_below (row * w + (t - 1)) t (w + 1) some (omega arith) in
    omega arith

-- a row takes no row of words, or the next one
pub words_begun_next : (t w row : ℕ) → 0 < w → w ≤ t
    → (words_begun t w (row + 1) ≡ words_begun t w row) ⊎ (words_begun t w (row + 1) ≡ words_begun t w row + 1)
words_begun_next t w row some narrow =
    let z : 0 < t = omega arith in
    elim (cases_lt 0 (row * w % t)) [
      | inl inside ↦ elim (cases_lt t (row * w % t + w)) [
        | inl more ↦ inr (omega (arith, begun_two t w row z narrow more, begun_part t w row z inside))
        | inr fits ↦ inl (omega (arith, begun_one t w row some fits, begun_part t w row z inside))
      ]
      | inr none ↦
          let whole : row * w % t ≡ 0 = omega arith in
          inr (omega (arith, begun_one t w row some (omega arith), begun_whole t w row z whole))
    ]
