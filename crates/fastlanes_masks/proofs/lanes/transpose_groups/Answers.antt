use Rattle.fastlanes_masks.proofs.ByteMoves.{transposes_halves}
use Rattle.fastlanes_masks.proofs.lanes.transpose_groups.Goals as goal

pub returns : goal.returns
returns c =
    transposes_halves _ _ _ _ c.fits-low.0 c.transpose_half.ensures.long c.transpose_half.ensures.transposed c.transpose_half-2.ensures.transposed
