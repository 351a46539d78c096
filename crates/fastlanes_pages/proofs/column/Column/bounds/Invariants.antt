use Rattle.std.proofs.Common.{◌≡◌, ◌*◌, ◌≤◌, All, take}
use Rattle.fastlanes_pages.specs.ColumnValues.{column_values}
use Rattle.fastlanes_pages.specs.Heads.{heads_greatest, heads_least}
use Rattle.fastlanes_pages.proofs.column.Column.bounds.Given as goal

-- the values of the blocks so far lie between the bounds
abbrev pub invariant-parts : goal.invariant-parts
invariant-parts g l = record {
  least_is : g.E.MachineWord.number l.bounds.0 ≡ heads_least g.E.MachineWord.T l.self l.number;
  greatest_is : g.E.MachineWord.number l.bounds.1 ≡ heads_greatest g.E.MachineWord.T l.self l.number;
  least : All (λ x. g.E.MachineWord.number l.bounds.0 ≤ x) (take (1024 * l.number) (column_values g.E.MachineWord.T g.E.MachineWord.LANES l.self));
  greatest : All (λ x. x ≤ g.E.MachineWord.number l.bounds.1) (take (1024 * l.number) (column_values g.E.MachineWord.T g.E.MachineWord.LANES l.self));
}
