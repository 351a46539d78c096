use Rattle.std.proofs.Common.{◌≡◌, ◌*◌}
use Rattle.fastlanes_rows.proofs.block_walk.walk_block.Given as goal

abbrev pub invariant-loop-group : goal.invariant-loop-group
invariant-loop-group g l =
    g.R.BlockReader.ready l.reader l.width
    × (g.R.GroupReader.value_at l.reader ≡ g.R.GroupReader.value_at l.initial.reader)
    × g.O.BlockWriter.done l.writer l.width (g.V.RowVector.N * l.group) (g.R.GroupReader.value_at l.initial.reader l.width)
    × (g.O.BlockWriter.target l.writer ≡ g.O.BlockWriter.target l.initial.writer)
