use Rattle.std.proofs.Common.{arith}
use Rattle.fastlanes_base.proofs.LowBits.{ones_at}
use Rattle.fastlanes_base.proofs.element.low_ones.Goals as goal

pub returns : goal.returns
returns c = ones_at c.args.n (omega (arith, c.requires))
