use Rattle.std.proofs.Common.{map}
use Rattle.std.specs.List.{slice_index}
use Rattle.fastlanes_column.specs.Differences.{delta_from}
use Rattle.fastlanes_column.proofs.WidthBounds.{IsAsWideBelow}
use Rattle.fastlanes_column.proofs.differences.joined_apart.Given as goal

abbrev pub invariant-loop-i : goal.invariant-loop-i
invariant-loop-i g l =
    let number = g.E.MachineWord.number in
    IsAsWideBelow (number l.joined) l.i (delta_from g.E.MachineWord.T (map number l.block) (slice_index (map number l.before)))
