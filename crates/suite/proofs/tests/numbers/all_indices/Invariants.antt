use Rattle.std.proofs.Common.{◌<◌, All}
use Rattle.suite.proofs.tests.numbers.all_indices.Given as goal

abbrev pub invariant-loop-i : goal.invariant-loop-i
invariant-loop-i l = All (λ i. i < 1024) l.indices
