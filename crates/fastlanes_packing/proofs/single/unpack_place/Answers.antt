use Rattle.std.proofs.Common.{◌<◌, ◌∙◌, ap, arith, length, map, sym}
use Rattle.fastlanes_rows.proofs.RowDigits.{number_at_place}
use Rattle.fastlanes_packing.proofs.SingleDigits.{bits_in_rows, digit-rows, digit_at_zero, digit_of_words, first_bit_in_lane, lane_below, last_bit_in_lane}
use Rattle.fastlanes_packing.proofs.single.unpack_place.Goals as goal

pub returns-then-width-eq0 : goal.returns-then-width-eq0
returns-then-width-eq0 g c =
    let none = ap g.E.FastLanes.number c.zero.ensures ∙ g.met.E.FastLanes.zero_number_law in
    rw c.if-width-eq0.true (none ∙ sym (digit_at_zero g.E.FastLanes.T g.E.FastLanes.LANES c.args.index (map g.E.FastLanes.number c.args.packed.now)))

pub overflow_mul-bit : goal.overflow_mul-bit
overflow_mul-bit g c =
    let below = bits_in_rows _ _ _ g.met.E.FastLanes.bits_law c.row_of_digit.ensures.below c.requires.width in
    omega (arith, below)

pub bit_place-requires-clause-lane : goal.bit_place-requires-clause-lane
bit_place-requires-clause-lane g c = rw c.LANES.ensures (lane_below _ _ c.args.index g.met.E.FastLanes.layout_law)

pub bit_place-requires-clause-bit : goal.bit_place-requires-clause-bit
bit_place-requires-clause-bit g c = first_bit_in_lane _ _ _ c.row_of_digit.ensures.below (omega arith)

pub bit_place-requires-2-clause-lane : goal.bit_place-requires-2-clause-lane
bit_place-requires-2-clause-lane g c = rw c.LANES.ensures (lane_below _ _ c.args.index g.met.E.FastLanes.layout_law)

pub bit_place-requires-2-clause-bit : goal.bit_place-requires-2-clause-bit
bit_place-requires-2-clause-bit g c = last_bit_in_lane _ _ _ c.row_of_digit.ensures.below (omega arith)

pub returns : goal.returns
returns g c =
    let wide : 0 < c.args.width = omega arith in
    let first_in : c.bit_place.result < length c.args.packed.now = omega arith in
    let last_in : c.bit_place-2.result < length c.args.packed.now = omega arith in
    let first = number_at_place g.E.FastLanes.number c.args.packed.now _ _ _ (sym c.bit_place.ensures.value) first_in c.index-packed-bit_place.is in
    let last = number_at_place g.E.FastLanes.number c.args.packed.now _ _ _ (sym c.bit_place-2.ensures.value) last_in c.index-packed-bit_place-2.is in
    digit_of_words g.E.FastLanes.T g.E.FastLanes.LANES c.args.width _ c.row_of_digit.result _ (map g.E.FastLanes.number c.args.packed.now) _ _ _ g.met.E.FastLanes.bits_law c.row_of_digit.ensures.below wide c.requires.width (cc)
    first last c.joined_digit.ensures.first_below c.joined_digit.ensures.last_below c.joined_digit.ensures.value
    ∙ digit-rows _ _ _ c.args.index _ _ _ (cc) c.row_of_digit.ensures.value
