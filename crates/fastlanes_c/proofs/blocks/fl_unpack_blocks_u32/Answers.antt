use Rattle.fastlanes_c.proofs.Numbers.{unpacked_blocks}
use Rattle.fastlanes_c.proofs.blocks.fl_unpack_blocks_u32.Goals as goal

pub returns : goal.returns
returns c = unpacked_blocks _ _ _ _ _ _ c.unpack_blocks.ensures
