use Rattle.fastlanes_masks.proofs.BitBytes.{gathers_more}
use Rattle.fastlanes_masks.proofs.bit_transpose.scalar.word_of_lanes.Goals as goal

pub loop-j-preserved : goal.loop-j-preserved
loop-j-preserved g c = gathers_more _ _ _ _ _ c.loop-j-test.true c.loop-j.invariant c.byte_of_lanes.ensures
