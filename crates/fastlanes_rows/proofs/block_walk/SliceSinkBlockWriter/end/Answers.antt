use Rattle.fastlanes_rows.proofs.RowsHeld.{group_held}
use Rattle.fastlanes_rows.proofs.block_walk.SliceSinkBlockWriter.end.Goals as goal

pub returns-clause-done : goal.returns-clause-done
returns-clause-done g c start at before held rest =
    (held.same_width, group_held _ _ _ _ _ _ at _ _ _ g.met.E.MachineWord.bits_law c.requires.lanes held rest before.1)
