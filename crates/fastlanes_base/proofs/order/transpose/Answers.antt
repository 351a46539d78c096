use Rattle.std.proofs.Common.{refl}
use Rattle.fastlanes_base.proofs.order.transpose.Goals as goal

pub returns : goal.returns
returns c = refl
