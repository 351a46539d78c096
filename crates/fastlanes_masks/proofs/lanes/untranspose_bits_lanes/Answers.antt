use Rattle.fastlanes_masks.proofs.BitMoves.{transposes_back, untransposes_from_source}
use Rattle.fastlanes_masks.proofs.ByteMoves.{moves_bits}
use Rattle.fastlanes_masks.proofs.lanes.untranspose_bits_lanes.Goals as goal

pub returns : goal.returns
returns g c =
    let comes = moves_bits _ _ _ _ _ _ c.bytes_of_block.ensures c.to_lanes.ensures c.put_bytes.ensures.bytes in
    let moved = untransposes_from_source _ _ _ _ g.met.E.FastLanes.layout_law c.put_bytes.ensures.block comes in
    record { moved = moved; undone = transposes_back _ _ _ _ (record { long = c.told-input; small = λ k _. c.fits-input k }) moved }
