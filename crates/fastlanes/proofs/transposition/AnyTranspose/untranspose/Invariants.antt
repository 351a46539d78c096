use Rattle.std.proofs.Common.{map}
use Rattle.fastlanes.specs.Transposition.{HoldsTiles, neighbours_start, original_value}
use Rattle.fastlanes.proofs.transposition.AnyTranspose.untranspose.Given as goal

abbrev pub invariant-loop-tile : goal.invariant-loop-tile
invariant-loop-tile g l = HoldsTiles neighbours_start 64 l.tile (original_value (map g.E.FastLanes.number l.input)) (map g.E.FastLanes.number l.output)
