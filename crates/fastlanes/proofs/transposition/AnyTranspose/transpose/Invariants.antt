use Rattle.std.proofs.Common.{map}
use Rattle.fastlanes.specs.Transposition.{HoldsTiles, rows_start, transposed_value}
use Rattle.fastlanes.proofs.transposition.AnyTranspose.transpose.Given as goal

abbrev pub invariant-loop-tile : goal.invariant-loop-tile
invariant-loop-tile g l = HoldsTiles rows_start 128 l.tile (transposed_value (map g.E.FastLanes.number l.input)) (map g.E.FastLanes.number l.output)
