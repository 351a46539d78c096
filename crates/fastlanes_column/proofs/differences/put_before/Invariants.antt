use Rattle.std.proofs.Common.{map}
use Rattle.fastlanes_column.proofs.Neighbours.{PrecedesSoFar}
use Rattle.fastlanes_column.proofs.differences.put_before.Given as goal

abbrev pub invariant-loop-lane : goal.invariant-loop-lane
invariant-loop-lane g l =
    let number = g.E.FastLanes.number in
    PrecedesSoFar g.E.FastLanes.T l.lane (map number l.base) (map number l.block) (map number l.before)
