use Rattle.std.proofs.Common.{◌≡◌}
use Rattle.fastlanes_pages.proofs.SumWords.{lane_sum}
use Rattle.fastlanes_pages.proofs.element.AnyStored.value_of_sums.Given as goal

-- the sum of the base and of the digits of the rows before
abbrev pub invariant-loop-row : goal.invariant-loop-row
invariant-loop-row g l = g.E.FastLanes.number l.sum ≡ lane_sum g.E.FastLanes.T g.E.FastLanes.LANES l.width l.before l.bytes l.lane l.row
