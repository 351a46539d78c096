use Rattle.std.proofs.Common.{◌*◌, ◌/◌, map}
use Rattle.fastlanes_base.specs.Digits.{row_digit}
use Rattle.fastlanes_masks.specs.Mask.{AnswersLanes, IsAnswer}
use Rattle.fastlanes_masks.proofs.bitpacking_cmp.compare_by_quarters.Given as goal

abbrev pub invariant-loop-quarter : goal.invariant-loop-quarter
invariant-loop-quarter g l = AnswersLanes g.E.MachineWord.T (g.E.MachineWord.LANES / 4 * l.quarter)
    (IsAnswer g.E.MachineWord.number g.V.FastLanesComparable.unpacked (goal.F-post g l.comparison) l.value)
    (row_digit g.E.MachineWord.T g.E.MachineWord.LANES g.N.Width.W (map g.E.MachineWord.number l.packed)) l.output
