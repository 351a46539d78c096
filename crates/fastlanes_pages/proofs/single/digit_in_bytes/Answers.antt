use Rattle.std.proofs.Common.{◌<◌, ◌*◌, ◌%◌, ◌∙◌, ap, arith, sym}
use Rattle.fastlanes_packing.proofs.SingleDigits.{bits_in_rows, digit-rows, digit_at_zero, digit_of_words, first_bit_in_lane, last_bit_in_lane}
use Rattle.fastlanes_pages.specs.ColumnValues.{words_in}
use Rattle.fastlanes_pages.proofs.single.digit_in_bytes.Goals as goal

pub returns-then-width-eq0 : goal.returns-then-width-eq0
returns-then-width-eq0 g c =
    let t = g.E.FastLanes.T in
    let lanes = g.E.FastLanes.LANES in
    let none = ap g.E.FastLanes.number c.zero.ensures ∙ g.met.E.FastLanes.zero_number_law in
    rw c.if-width-eq0.true (none ∙ sym (digit_at_zero t lanes c.args.index (words_in t (lanes * 0) c.args.bytes.now)))

pub overflow_mul-bit : goal.overflow_mul-bit
overflow_mul-bit g c =
    let below = bits_in_rows _ _ _ g.met.E.FastLanes.bits_law c.row_of.ensures.below c.requires.width in
    omega (arith, below)

pub word_of_bit-first-requires-clause-bit : goal.word_of_bit-first-requires-clause-bit
word_of_bit-first-requires-clause-bit g c = first_bit_in_lane _ _ _ c.row_of.ensures.below (omega arith)

pub word_of_bit-last-requires-clause-bit : goal.word_of_bit-last-requires-clause-bit
word_of_bit-last-requires-clause-bit g c = last_bit_in_lane _ _ _ c.row_of.ensures.below (omega arith)

pub returns : goal.returns
returns g c =
    let t = g.E.FastLanes.T in
    let lanes = g.E.FastLanes.LANES in
    let wide : 0 < c.args.width = omega arith in
    let words = words_in t (lanes * c.args.width) c.args.bytes.now in
    let bit = c.row_of.result * c.args.width in
    digit_of_words t lanes c.args.width c.lane_of-lane.result c.row_of.result (bit % c.T.result) words _ _ _
    g.met.E.FastLanes.bits_law c.row_of.ensures.below wide c.requires.width (ap (λ n. bit % n) c.T.ensures)
    c.word_of_bit-first.ensures.value c.word_of_bit-last.ensures.value
    c.joined_digit.ensures.first_below c.joined_digit.ensures.last_below c.joined_digit.ensures.value
    ∙ digit-rows t lanes c.args.width c.args.index c.lane_of-lane.result c.row_of.result words c.lane_of-lane.ensures.value c.row_of.ensures.value
