use Rattle.std.proofs.Common.{◌≡◌, ◌<◌, ℕ, get_or}
use Rattle.fastlanes_column.specs.Heads.{widths}
use Rattle.fastlanes_column.specs.Column.{part_start}
use Rattle.fastlanes_column.proofs.column.column_starts.Given as goal

abbrev pub invariant-loop-b : goal.invariant-loop-b
invariant-loop-b g l =
    (l.start ≡ part_start g.E.FastLanes.LANES (widths l.heads) l.b)
    × ((c : ℕ) → c < l.b → get_or l.starts c 0 ≡ part_start g.E.FastLanes.LANES (widths l.heads) c)
