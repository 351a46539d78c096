use Rattle.fastlanes_masks.proofs.BitSwaps.{transposes_by_swaps}
use Rattle.fastlanes_masks.proofs.lanes.transpose_words.Goals as goal

pub returns : goal.returns
returns c j within =
    rw (c.swap_lanes.ensures j within, c.swap_lanes-x-2.ensures j within, c.swap_lanes-x.ensures j within) (transposes_by_swaps _)
