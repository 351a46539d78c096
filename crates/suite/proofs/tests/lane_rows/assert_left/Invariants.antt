use Rattle.std.proofs.Common.{◌≡◌, ℕ, ◌*◌, ◌/◌, ◌%◌, ◌^◌, ◌<◌, map}
use Rattle.std.specs.List.{slice_index}
use Rattle.fastlanes.specs.Sinks.{row_sink}
use Rattle.suite.proofs.tests.lane_rows.assert_left.Given as goal

abbrev pub invariant-loop-row : goal.invariant-loop-row
invariant-loop-row g l =
    ((row_sink l.sink).width ≡ l.width)
    × ((row_sink l.sink).count ≡ l.row * l.width / 8)
    × ((j : ℕ) → j < 16 → slice_index (map (λ (x : ℕ). x) l.carry) j < 2 ^ (l.row * l.width % 8))
