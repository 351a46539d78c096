use Rattle.std.proofs.Common.{lit<, refl}
use Rattle.fastlanes_masks.proofs.ByteLanes.{lanes_of_halves}
use Rattle.fastlanes_masks.proofs.bitpacking_cmp.U32LaneBytes.bytes_of_lanes.Goals as goal

pub returns : goal.returns
returns c n = lanes_of_halves 32 16 _ c.args.words.now c.bytes_of_32.result c.bytes_of_32-2.result n refl (lit< tt) c.requires (λ x. refl) c.bytes_of_32.ensures.long c.bytes_of_32.ensures.bytes c.bytes_of_32-2.ensures.bytes
