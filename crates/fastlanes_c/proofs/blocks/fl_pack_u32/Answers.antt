use Rattle.fastlanes_c.proofs.Numbers.{packed}
use Rattle.fastlanes_c.proofs.blocks.fl_pack_u32.Goals as goal

pub returns : goal.returns
returns c = packed _ _ _ _ _ c.pack_wide.ensures.packed
