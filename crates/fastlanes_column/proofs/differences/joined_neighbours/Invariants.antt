use Rattle.std.proofs.Common.{map}
use Rattle.fastlanes_column.specs.Differences.{delta_from, value_before}
use Rattle.fastlanes_column.proofs.WidthBounds.{IsAsWideBelow}
use Rattle.fastlanes_column.proofs.differences.joined_neighbours.Given as goal

abbrev pub invariant-loop-i : goal.invariant-loop-i
invariant-loop-i g l =
    let block = map g.E.MachineWord.number l.block in
    IsAsWideBelow (g.E.MachineWord.number l.joined) l.i (delta_from g.E.MachineWord.T block (value_before (g.E.MachineWord.number l.fn.before) block))
