use Rattle.std.proofs.Common.{◌≡◌, ℕ, ◌+◌, ◌*◌, ◌/◌, ◌%◌, ◌^◌, ◌<◌, length, map}
use Rattle.std.specs.List.{slice_index}
use Rattle.fastlanes.specs.Sinks.{row_sink}
use Rattle.callers.proofs.lane_rows.written_by_rows.Given as goal

abbrev pub invariant-loop-row : goal.invariant-loop-row
invariant-loop-row g l =
    ((row_sink l.sink).width ≡ l.width)
    × ((row_sink l.sink).count ≡ l.row * l.width / g.E.FastLanes.T)
    × ((j : ℕ) → j < 16 → slice_index (map g.E.FastLanes.number l.carry) j < 2 ^ (l.row * l.width % g.E.FastLanes.T))
    × (length l.written ≡ g.E.FastLanes.T)
    × ((k : ℕ) → k < l.row → slice_index l.written k ≡ (k + 1) * l.width / g.E.FastLanes.T)
