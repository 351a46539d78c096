use Rattle.std.proofs.Common.{◌<◌, ◌+◌, ℕ, map}
use Rattle.std.specs.List.{slice_index}
use Rattle.fastlanes_base.specs.Digits.{row_digit}
use Rattle.fastlanes_masks.specs.Mask.{GatheredParts, IsAnswer}
use Rattle.fastlanes_masks.proofs.bitpacking_cmp.compare_lanes.Given as goal

abbrev pub invariant-loop-lane : goal.invariant-loop-lane
invariant-loop-lane g l = (other : ℕ) → other < l.lane → GatheredParts (IsAnswer g.E.MachineWord.number g.V.FastLanesComparable.unpacked (goal.F-post g l.comparison) l.value)
    (row_digit g.E.MachineWord.T g.E.MachineWord.LANES g.N.Width.W (map g.E.MachineWord.number l.packed) (l.first + other)) g.E.MachineWord.T (slice_index (map g.E.MachineWord.number l.words) other)
