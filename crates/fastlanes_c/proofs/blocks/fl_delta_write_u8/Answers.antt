use Rattle.fastlanes_c.proofs.Numbers.{packed_deltas}
use Rattle.fastlanes_c.proofs.blocks.fl_delta_write_u8.Goals as goal

pub returns : goal.returns
returns c = packed_deltas _ _ _ _ _ _ c.delta_write.ensures.packed
