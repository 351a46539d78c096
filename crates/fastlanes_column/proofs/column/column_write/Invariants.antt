use Rattle.std.proofs.Common.{◌≡◌, ◌<◌, ℕ, map}
use Rattle.fastlanes_column.specs.Heads.{references, widths}
use Rattle.fastlanes_column.specs.Column.{part, part_start}
use Rattle.fastlanes_column.proofs.PartWords.{IsWritten}
use Rattle.fastlanes_column.proofs.column.column_write.Given as goal

abbrev pub invariant-loop-b : goal.invariant-loop-b
invariant-loop-b g l =
    (l.start ≡ part_start g.E.FastLanes.LANES (widths l.heads) l.b)
    × ((c : ℕ) → c < l.b → IsWritten g.E.FastLanes.T g.E.FastLanes.LANES (widths l.heads) (references g.E.FastLanes.number l.heads)
    (map (map g.E.FastLanes.number) l.blocks) c (part g.E.FastLanes.LANES (widths l.heads) (map g.E.FastLanes.number l.output) c))
