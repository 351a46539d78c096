use Rattle.std.proofs.Common.{◌≡◌, ◌-◌, ◌≤◌, drop, length, map, take}
use Rattle.fastlanes_pages.specs.ColumnValues.{column_values}
use Rattle.fastlanes_pages.proofs.opened.Opened.read.Given as goal

-- the values so far are read
abbrev pub invariant-parts : goal.invariant-parts
invariant-parts g l = record {
  done : l.done ≤ length l.output;
  so_far : map g.E.MachineWord.number (take l.done l.output) ≡ take l.done (drop l.from (column_values g.E.MachineWord.T g.E.MachineWord.LANES l.self.bytes.now));
}

abbrev pub decreases-parts : goal.decreases-parts
decreases-parts g l = length l.output - l.done
