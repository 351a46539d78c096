use Rattle.std.proofs.Common.{◌∙◌, map, sym}
use Rattle.fastlanes_packing.proofs.SingleDigits.{digit-rows, digit_at_zero}
use Rattle.fastlanes_packing.proofs.single.probe_place.Goals as goal

pub returns-then-width-eq0 : goal.returns-then-width-eq0
returns-then-width-eq0 g c =
    let none = c.zero.ensures in
    rw c.if-width-eq0.true (none ∙ sym (digit_at_zero g.E.MachineWord.T g.E.MachineWord.LANES c.args.index (map g.E.MachineWord.number c.args.packed.now)))

pub returns : goal.returns
returns g c = (rw c.new-probe.ensures at c.probe_digit.ensures.digit) ∙ digit-rows _ _ _ c.args.index _ _ _ (cc) c.row_in_table-row.ensures.value
