use Rattle.fastlanes_c.proofs.Numbers.{packed}
use Rattle.fastlanes_c.proofs.blocks.fl_pack_u64.Goals as goal

pub returns : goal.returns
returns c = packed _ _ _ _ _ c.at_width.ensures.packed
