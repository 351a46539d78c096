use Rattle.std.proofs.Common.{◌<◌, ◌^◌, All}
use Rattle.fastlanes.specs.Frame.{word_difference}
use Rattle.suite_of_callers.proofs.tests.round_trips.block_near_254.Given as goal

abbrev pub invariant-loop-i : goal.invariant-loop-i
invariant-loop-i l = All (λ x. word_difference 8 x 254 < 2 ^ 2) l.values
