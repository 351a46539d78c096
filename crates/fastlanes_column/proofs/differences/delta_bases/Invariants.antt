use Rattle.std.proofs.Common.{◌≡◌, ◌<◌, ℕ, length, map}
use Rattle.std.specs.List.{slice_index}
use Rattle.fastlanes.specs.Order.{transposed_index}
use Rattle.fastlanes_column.specs.Differences.{value_before}
use Rattle.fastlanes_column.proofs.differences.delta_bases.Given as goal

abbrev pub invariant-loop-lane : goal.invariant-loop-lane
invariant-loop-lane g l =
    (length l.base ≡ g.E.FastLanes.LANES)
    × ((k : ℕ) → k < l.lane → slice_index (map g.E.FastLanes.number l.base) k
    ≡ value_before (g.E.FastLanes.number l.before) (map g.E.FastLanes.number l.block) (transposed_index k))
