use Rattle.fastlanes_masks.proofs.BitSwaps.{transposes_by_swaps}
use Rattle.fastlanes_masks.proofs.bit_transpose.transpose_8x8.Goals as goal

pub returns : goal.returns
returns c = rw (c.swap.ensures, c.swap-x-2.ensures, c.swap-x.ensures) (transposes_by_swaps c.args.x)
