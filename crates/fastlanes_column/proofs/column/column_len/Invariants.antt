use Rattle.std.proofs.Common.{◌≡◌}
use Rattle.fastlanes_column.specs.Heads.{widths}
use Rattle.fastlanes_column.specs.Column.{part_start}
use Rattle.fastlanes_column.proofs.column.column_len.Given as goal

abbrev pub invariant-loop-head : goal.invariant-loop-head
invariant-loop-head g l = l.len ≡ part_start g.E.FastLanes.LANES (widths l.heads) l.head-index
