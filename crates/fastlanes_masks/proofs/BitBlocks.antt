-- A block is known by its bits, and so by what it transposes to.
use Rattle.std.proofs.Common.{◌≡◌, ℕ, ◌+◌, ◌*◌, ◌/◌, ◌%◌, ◌<◌, List, slice_index, sym, ap, ◌∙◌, arith}
use Rattle.std.proofs.lemmas.Grind.{same_number_lists}
use Rattle.std.proofs.lemmas.Nat.Bits.{same_from_bits_below}
use Rattle.std.proofs.lemmas.Nat.{div-add-mod'}
use Rattle.fastlanes_base.specs.Element.{IsLayout}
use Rattle.fastlanes_base.specs.Order.{lane_at, place, row_at, transposed_index}
use Rattle.fastlanes_base.proofs.Places.{layout_64, place-at, row_at-lt}
use Rattle.fastlanes_masks.specs.Bits.{IsBitBlock, UntransposesBits, block_bit}
use Rattle.fastlanes_masks.proofs.BitPlaces.{lane_of_bit-lt, row_of_bit-lt, transposed_index-of_words}

pub same_from_block_bits : (xs ys : List ℕ) → IsBitBlock xs → IsBitBlock ys → ((b : ℕ) → b < 1024 → block_bit xs b ≡ block_bit ys b)
    → xs ≡ ys
same_from_block_bits xs ys x_block y_block same =
    same_number_lists xs ys (x_block.long ∙ sym y_block.long) (λ k within.
    let in_block : k < 16 = omega (arith, x_block.long) in
    same_from_bits_below 64 (slice_index xs k) (slice_index ys k) (x_block.small k in_block) (y_block.small k in_block) (λ i in_word.
    let b = 64 * k + i in
    let word : b / 64 ≡ k = omega arith in
    let bit : b % 64 ≡ i = omega arith in
    rw (word, bit) at (same b (omega arith))))

-- a block has one that it is the transpose of
pub same_from_untransposed : (t lanes : ℕ) (input xs ys : List ℕ) → IsLayout t lanes
    → UntransposesBits t lanes input xs → UntransposesBits t lanes input ys → xs ≡ ys
same_from_untransposed t lanes input xs ys layout to_xs to_ys =
    same_from_block_bits xs ys to_xs.block to_ys.block (λ b within.
    let row = b % t in
    let lane = b / t in
    let in_rows = row_of_bit-lt t lanes b layout in
    let in_lanes = lane_of_bit-lt t lanes b layout within in
    let at : lane * t + row ≡ b = div-add-mod' b t in
    sym (ap (λ n. block_bit xs n) at) ∙ to_xs.each row lane in_rows in_lanes ∙ sym (to_ys.each row lane in_rows in_lanes) ∙ ap (λ n. block_bit ys n) at)

-- at 64 bits each bit goes where the place's element would come from
pub untransposed_at_64 : (input output : List ℕ) (i : ℕ) → i < 1024 → UntransposesBits 64 16 input output
    → block_bit output (transposed_index i) ≡ block_bit input i
untransposed_at_64 input output i in_block moved =
    let row = row_at 16 i in
    let lane = lane_at 16 i in
    let in_rows = row_at-lt 64 16 i layout_64 in_block in
    let in_lanes : lane < 16 = omega arith in
    let at : place row lane ≡ i = place-at 64 16 i layout_64 in_block in
    let to : transposed_index i ≡ lane * 64 + row = ap transposed_index (sym at) ∙ transposed_index-of_words row lane in_rows in_lanes in
    ap (λ n. block_bit output n) to ∙ moved.each row lane in_rows in_lanes ∙ ap (λ n. block_bit input n) at
