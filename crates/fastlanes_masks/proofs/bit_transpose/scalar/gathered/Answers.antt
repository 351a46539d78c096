use Rattle.fastlanes_masks.proofs.BitBytes.{gathers_more}
use Rattle.fastlanes_masks.proofs.bit_transpose.scalar.gathered.Goals as goal

pub loop-j-preserved : goal.loop-j-preserved
loop-j-preserved c = gathers_more _ _ _ _ _ c.loop-j-test.true c.loop-j.invariant c.byte_of.ensures
