use Rattle.fastlanes_c.proofs.Numbers.{packed_frame}
use Rattle.fastlanes_c.proofs.blocks.fl_for_pack_u64.Goals as goal

pub returns : goal.returns
returns c = packed_frame _ _ _ _ _ _ c.at_width.ensures.packed
