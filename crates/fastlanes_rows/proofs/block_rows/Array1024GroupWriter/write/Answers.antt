use Rattle.fastlanes_rows.proofs.RowsPlaced.{rows_beside, rows_more}
use Rattle.fastlanes_rows.proofs.block_rows.Array1024GroupWriter.write.Goals as goal

pub returns-clause-holds : goal.returns-clause-holds
returns-clause-holds g c at has is =
    rows_more _ _ _ _ _ at _ _ _ g.met.E.MachineWord.layout_law c.requires.lanes c.requires.row (rw c.index.ensures at c.store.ensures) has is

pub returns-clause-beside : goal.returns-clause-beside
returns-clause-beside g c start beside =
    rows_beside _ _ _ _ _ _ _ _ _ g.met.E.MachineWord.layout_law c.requires.lanes c.requires.row (rw c.index.ensures at c.store.ensures) beside
