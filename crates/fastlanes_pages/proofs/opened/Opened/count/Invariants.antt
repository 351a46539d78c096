use Rattle.std.proofs.Common.{◌≡◌, ◌*◌, take}
use Rattle.fastlanes_pages.specs.Masks.{count_where, holds_of}
use Rattle.fastlanes_pages.specs.ColumnValues.{column_values}
use Rattle.fastlanes_pages.proofs.opened.Opened.count.Given as goal

-- those of the blocks so far are counted
abbrev pub invariant-parts : goal.invariant-parts
invariant-parts g l = record {
  counted : l.count ≡ count_where (holds_of l.comparison (g.E.MachineWord.number l.value)) (take (1024 * l.number) (column_values g.E.MachineWord.T g.E.MachineWord.LANES l.self.bytes.now));
}
