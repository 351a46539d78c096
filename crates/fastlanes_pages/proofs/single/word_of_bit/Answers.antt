use Rattle.std.proofs.Common.{◌<◌, arith}
use Rattle.fastlanes_packing.proofs.SingleDigits.{bit_place_below}
use Rattle.fastlanes_pages.proofs.single.word_of_bit.Goals as goal

pub word_at-requires-clause-place : goal.word_at-requires-clause-place
word_at-requires-clause-place g c =
    let some : 0 < g.E.FastLanes.T = omega (arith, g.met.E.FastLanes.bits_law) in
    rw (c.LANES.ensures, c.T.ensures) (bit_place_below _ _ _ _ _ some c.requires.lane c.requires.bit)
