use Rattle.std.proofs.Common.{arith}
use Rattle.fastlanes_packing.proofs.SingleDigits.{chosen_all, chosen_more}
use Rattle.fastlanes_packing.proofs.bitpacking.unpack_from_starts.Goals as goal

pub loop-j-preserved : goal.loop-j-preserved
loop-j-preserved g c = chosen_more _ _ _ _ _ (omega arith) c.unpack_from_start.ensures c.loop-j.invariant

pub returns : goal.returns
returns g c = chosen_all _ _ _ _ _ (omega arith) (omega arith) c.loop-j.invariant
