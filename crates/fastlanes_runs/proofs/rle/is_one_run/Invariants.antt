use Rattle.std.proofs.Common.{◌≡◌, ◌<◌, ◌≤◌, ◌↔◌, ℕ, IsTrue, map, slice_index}
use Rattle.fastlanes_runs.proofs.rle.is_one_run.Given as goal

abbrev pub invariant-loop-i : goal.invariant-loop-i
invariant-loop-i g l = IsTrue l.all ↔ ((i : ℕ) → l.from ≤ i → i < l.i → slice_index (map g.I.RunIndex.place l.rle_idxs) i ≡ l.place)
