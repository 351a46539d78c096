use Rattle.std.proofs.Common.{◌<◌, All}
use Rattle.suite.proofs.vectors.blocks.indexes.Given as goal

abbrev pub invariant-loop-place : goal.invariant-loop-place
invariant-loop-place g l = All (λ index. g.I.RunIndex.place index < 1024) l.indexes
