use Rattle.std.proofs.Common.{◌<◌, All}
use Rattle.suite.proofs.vectors.packed.chosen_places.Given as goal

abbrev pub invariant-loop-j : goal.invariant-loop-j
invariant-loop-j l = All (λ place. place < 1024) l.places
