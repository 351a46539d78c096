use Rattle.std.proofs.Common.{◌<◌}
use Rattle.std.specs.List.{All}
use Rattle.suite.proofs.tests.rle.assert_alternates.Given as goal

abbrev pub invariant-loop-i : goal.invariant-loop-i
invariant-loop-i g l = All (λ index. g.I.RunIndex.place index < 2) l.rle_idxs
