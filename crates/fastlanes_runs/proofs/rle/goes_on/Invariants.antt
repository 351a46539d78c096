use Rattle.std.proofs.Common.{◌≡◌, ◌<◌, ◌≤◌, ◌↔◌, ℕ, true, Some, IsTrue, slice_get}
use Rattle.fastlanes_runs.specs.RunLengths.{is_equal}
use Rattle.fastlanes_runs.proofs.rle.goes_on.Given as goal

abbrev pub invariant-loop-i : goal.invariant-loop-i
invariant-loop-i g l = IsTrue l.all ↔ ((i : ℕ) → l.from ≤ i → i < l.i → is_equal g.V.PartialEq.eq (slice_get l.input i) (Some l.start) ≡ true)
