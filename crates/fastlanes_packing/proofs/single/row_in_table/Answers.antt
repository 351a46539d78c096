use Rattle.std.proofs.Common.{arith}
use Rattle.fastlanes_base.proofs.Places.{row_at-lt}
use Rattle.fastlanes_packing.proofs.SingleDigits.{entry_below_64, row_by_table}
use Rattle.fastlanes_packing.proofs.single.row_in_table.Goals as goal

pub overflow_mul-result : goal.overflow_mul-result
overflow_mul-result g c =
    let below = entry_below_64 _ _ c.args.index g.met.E.MachineWord.layout_law c.requires in
    rw c.LANES-lanes.ensures (omega (arith, below))

pub bounds-index : goal.bounds-index
bounds-index g c = rw c.LANES-lanes.ensures (entry_below_64 _ _ _ g.met.E.MachineWord.layout_law c.requires)

pub returns-else-T-eq8-clause-value : goal.returns-else-T-eq8-clause-value
returns-else-T-eq8-clause-value g c = cc (row_by_table g.E.MachineWord.T g.E.MachineWord.LANES c.args.index g.met.E.MachineWord.layout_law c.requires)

pub returns-else-T-eq8-clause-below : goal.returns-else-T-eq8-clause-below
returns-else-T-eq8-clause-below g c = rw (returns-else-T-eq8-clause-value g c) (row_at-lt g.E.MachineWord.T g.E.MachineWord.LANES c.args.index g.met.E.MachineWord.layout_law c.requires)
