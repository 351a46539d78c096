use Rattle.std.proofs.Common.{◌≤◌}
use Rattle.fastlanes_blocks.proofs.Ranges.{IsFirstSoFar}
use Rattle.fastlanes_blocks.proofs.range.ends_of.Given as goal

-- the least and the greatest of what the lanes up to here have
abbrev pub invariant-loop-j : goal.invariant-loop-j
invariant-loop-j g l = record {
  least : IsFirstSoFar (λ x y. x ≤ y) l.j g.V.RowVector.N (g.V.RowVector.at l.fn.range.least) (g.E.MachineWord.number l.least);
  greatest : IsFirstSoFar (λ x y. y ≤ x) l.j g.V.RowVector.N (g.V.RowVector.at l.fn.range.greatest) (g.E.MachineWord.number l.greatest);
}
