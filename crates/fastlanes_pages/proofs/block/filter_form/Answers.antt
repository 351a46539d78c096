use Rattle.fastlanes_pages.proofs.ColumnParts.{form_long}
use Rattle.fastlanes_pages.proofs.FormBounds.{lie_between}
use Rattle.fastlanes_pages.specs.ColumnValues.{form_values}
use Rattle.fastlanes_pages.proofs.block.filter_form.Goals as goal

pub returns-then-filter_between-clause-mask : goal.returns-then-filter_between-clause-mask
returns-then-filter_between-clause-mask g c =
    let t = g.E.MachineWord.T in
    let lanes = g.E.MachineWord.LANES in
    let a = c.args in
    let values = form_values t lanes a.differences a.width a.reference a.bytes.now in
    let bounds = c.bounds_of_form-least.ensures in
    let is = lie_between t lanes g.met.E.MachineWord.layout_law a.width a.reference a.bytes.now a.differences _ _ bounds.least bounds.greatest in
    c.filter_between.ensures.told c.if-filter_between.true values (form_long t lanes a.differences a.width a.reference a.bytes.now) is.0 is.1
