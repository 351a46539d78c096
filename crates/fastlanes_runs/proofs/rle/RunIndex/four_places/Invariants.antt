use Rattle.std.proofs.Common.{◌≡◌, ◌<◌, ◌+◌, ℕ, length, map, slice_index}
use Rattle.fastlanes_runs.proofs.rle.RunIndex.four_places.Given as goal

abbrev pub invariant-loop-j : goal.invariant-loop-j
invariant-loop-j g l = record {
  long : length l.places ≡ 4;
  each : (k : ℕ) → k < l.j → slice_index l.places k ≡ slice_index (map g.Self.RunIndex.place l.indexes) (l.from + k);
}
