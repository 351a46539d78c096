use Rattle.std.proofs.Common.{refl}
use Rattle.fastlanes_masks.proofs.BitMoves.{each_of_sixteen, moves_to_lanes, transposes_back}
use Rattle.fastlanes_masks.proofs.bit_transpose.scalar.untranspose_bits.Goals as goal

pub returns : goal.returns
returns g c =
    let moved = moves_to_lanes _ _ _ _ _ g.met.E.FastLanes.layout_law refl
    (each_of_sixteen _ c.lanes_of_group.ensures c.lanes_of_group-2.ensures c.lanes_of_group-3.ensures c.lanes_of_group-4.ensures c.lanes_of_group-5.ensures c.lanes_of_group-6.ensures c.lanes_of_group-7.ensures c.lanes_of_group-8.ensures c.lanes_of_group-9.ensures c.lanes_of_group-10.ensures c.lanes_of_group-11.ensures c.lanes_of_group-12.ensures c.lanes_of_group-13.ensures c.lanes_of_group-14.ensures c.lanes_of_group-15.ensures c.lanes_of_group-16.ensures)
    (each_of_sixteen _ c.word_of_lanes.ensures c.word_of_lanes-2.ensures c.word_of_lanes-3.ensures c.word_of_lanes-4.ensures c.word_of_lanes-5.ensures c.word_of_lanes-6.ensures c.word_of_lanes-7.ensures c.word_of_lanes-8.ensures c.word_of_lanes-9.ensures c.word_of_lanes-10.ensures c.word_of_lanes-11.ensures c.word_of_lanes-12.ensures c.word_of_lanes-13.ensures c.word_of_lanes-14.ensures c.word_of_lanes-15.ensures c.word_of_lanes-16.ensures) in
    record { moved = moved; undone = transposes_back _ _ _ _ (record { long = c.told-input; small = λ k _. c.fits-input k }) moved }
