use Rattle.fastlanes_rows.proofs.RowsPlaced.{group_filled}
use Rattle.fastlanes_rows.proofs.block_walk.Array1024BlockWriter.end.Goals as goal

pub returns-clause-done : goal.returns-clause-done
returns-clause-done g c start at before held rest = group_filled _ _ _ _ at _ _ c.requires.lanes held rest before
