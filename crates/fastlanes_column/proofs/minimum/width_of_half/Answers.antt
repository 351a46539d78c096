use Rattle.std.proofs.Common.{arith}
use Rattle.fastlanes_column.proofs.WidthBounds.{leading_exact}
use Rattle.fastlanes_column.proofs.minimum.width_of_half.Goals as goal

pub returns-clause-exact : goal.returns-clause-exact
returns-clause-exact c = leading_exact 32 c.args.number (omega arith)
