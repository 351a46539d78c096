use Rattle.std.proofs.Common.{arith}
use Rattle.fastlanes_column.proofs.Neighbours.{value_before-at}
use Rattle.fastlanes_column.proofs.differences.value_before_place.Goals as goal

pub returns-else-place-eq0 : goal.returns-else-place-eq0
returns-else-place-eq0 g c =
    value_before-at g.E.MachineWord.number (g.E.MachineWord.number c.args.before) c.args.block.now c.args.place c.index-block-place.result (omega arith) (omega arith)
