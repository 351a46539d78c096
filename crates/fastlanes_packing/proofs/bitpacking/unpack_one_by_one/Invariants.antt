use Rattle.std.proofs.Common.{◌≡◌, ℕ, ◌<◌, map}
use Rattle.std.specs.List.{slice_index}
use Rattle.fastlanes_base.specs.Digits.{digit}
use Rattle.fastlanes_packing.proofs.bitpacking.unpack_one_by_one.Given as goal

abbrev pub invariant-loop-j : goal.invariant-loop-j
invariant-loop-j g l = (k : ℕ) → k < l.j → slice_index (map g.E.FastLanes.number l.output) k ≡ digit g.E.FastLanes.T g.E.FastLanes.LANES l.width (map g.E.FastLanes.number l.packed) (slice_index l.indices k)
