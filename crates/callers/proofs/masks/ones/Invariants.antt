use Rattle.std.proofs.Common.{◌≡◌, ◌≤◌, ◌*◌, count_ones, sum_by, take}
use Rattle.callers.proofs.masks.ones.Given as goal

abbrev pub invariant-loop-k : goal.invariant-loop-k
invariant-loop-k l = (l.count ≡ sum_by count_ones (take l.k l.words)) × (l.count ≤ 64 * l.k)
