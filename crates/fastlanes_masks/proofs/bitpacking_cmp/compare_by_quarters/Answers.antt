use Rattle.std.proofs.Common.{◌≡◌, arith, map}
use Rattle.fastlanes_base.specs.Digits.{row_digit}
use Rattle.fastlanes_masks.proofs.Answering.{quarters_more, answers_whole, mask_of_lanes}
use Rattle.fastlanes_masks.proofs.bitpacking_cmp.compare_by_quarters.Goals as goal

pub loop-quarter-init : goal.loop-quarter-init
loop-quarter-init g c = record { each = λ lane row in_lanes in_rows. absurd (omega arith) }

pub loop-quarter-preserved : goal.loop-quarter-preserved
loop-quarter-preserved g c = quarters_more _ g.E.MachineWord.LANES c.loop-quarter.quarter _
    (row_digit g.E.MachineWord.T g.E.MachineWord.LANES g.N.Width.W (map g.E.MachineWord.number c.args.packed.now)) c.compare_quarter-words.result c.loop-quarter.output _
    g.met.E.MachineWord.layout_law c.put_quarter.ensures.here c.put_quarter.ensures.before c.compare_quarter-words.ensures c.loop-quarter.invariant

pub returns : goal.returns
returns g c =
    let layout = g.met.E.MachineWord.layout_law in
    let four : c.loop-quarter.quarter ≡ 4 = omega arith in
    mask_of_lanes _ g.E.MachineWord.LANES _ _ _ _ layout (answers_whole _ g.E.MachineWord.LANES c.loop-quarter.quarter _ _ _ layout four c.loop-quarter.invariant)
