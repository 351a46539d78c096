use Rattle.std.proofs.Common.{◌≡◌, ◌%◌, ◌^◌}
use Rattle.fastlanes_blocks.specs.Sums.{lanes_sum}
use Rattle.fastlanes_blocks.proofs.sum.sum_of_lanes.Given as goal

abbrev pub invariant-loop-j : goal.invariant-loop-j
invariant-loop-j g l = l.sum ≡ lanes_sum l.j (g.V.RowVector.at l.fn.row) % 2 ^ 64
