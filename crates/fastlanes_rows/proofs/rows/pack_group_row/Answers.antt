use Rattle.std.proofs.Common.{◌<◌, arith}
use Rattle.fastlanes_rows.proofs.RowsHeld.{rows_held, words_beside}
use Rattle.fastlanes_rows.proofs.rows.pack_group_row.Goals as goal

pub returns-clause-holds : goal.returns-clause-holds
returns-clause-holds g c at held is =
    let some : 0 < g.E.MachineWord.T = omega (arith, g.met.E.MachineWord.bits_law) in
    let packed = c.pack_step.ensures in
    rows_held _ _ _ _ _ _ _ at _ _ _ _ _ some c.requires.width c.requires.lanes packed.packs held is

pub returns-clause-beside : goal.returns-clause-beside
returns-clause-beside g c start beside =
    let packed = c.pack_step.ensures in
    words_beside _ _ _ _ _ _ _ _ _ _ _ _ _ c.requires.lanes packed.packs c.requires.holds.1.same_lane beside
