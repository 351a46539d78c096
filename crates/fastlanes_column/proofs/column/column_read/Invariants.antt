use Rattle.std.proofs.Common.{◌≡◌, ◌<◌, ℕ, map}
use Rattle.fastlanes_column.specs.Heads.{references, widths}
use Rattle.fastlanes_column.specs.Column.{block_at, held_block, part_start}
use Rattle.fastlanes_column.proofs.column.column_read.Given as goal

abbrev pub invariant-loop-b : goal.invariant-loop-b
invariant-loop-b g l =
    (l.start ≡ part_start g.E.FastLanes.LANES (widths l.heads) l.b)
    × ((c : ℕ) → c < l.b → block_at (map (map g.E.FastLanes.number) l.output) c
    ≡ held_block g.E.FastLanes.T g.E.FastLanes.LANES (widths l.heads) (references g.E.FastLanes.number l.heads) (map g.E.FastLanes.number l.input) c)
