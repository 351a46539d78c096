use Rattle.fastlanes_masks.proofs.BitMoves.{transposes_from_source, untransposes}
use Rattle.fastlanes_masks.proofs.ByteMoves.{moves_bits}
use Rattle.fastlanes_masks.proofs.lanes.transpose_bits_lanes.Goals as goal

pub returns-clause-moved : goal.returns-clause-moved
returns-clause-moved g c =
    transposes_from_source _ _ _ _ g.met.E.FastLanes.layout_law c.put_bytes.ensures.block
    (moves_bits _ _ _ _ _ _ c.bytes_of_block.ensures c.to_places.ensures c.put_bytes.ensures.bytes)

pub returns-clause-undone : goal.returns-clause-undone
returns-clause-undone g c =
    untransposes _ _ _ _ (record { long = c.told-input; small = λ k _. c.fits-input k }) (returns-clause-moved g c)
