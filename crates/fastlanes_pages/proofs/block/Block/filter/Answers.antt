use Rattle.std.proofs.Common.{ap}
use Rattle.fastlanes_pages.specs.ColumnValues.{form_values}
use Rattle.fastlanes_pages.specs.Masks.{holds_of}
use Rattle.fastlanes_pages.proofs.block.Block.filter.Goals as goal

pub returns-clause-mask : goal.returns-clause-mask
returns-clause-mask g c =
    let s = c.self.inside in
    rw (ap (λ b. b.values) c.self.view_is) at
    (c.keep_first.ensures (holds_of c.args.comparison (g.E.MachineWord.number c.args.value))
    (form_values g.E.MachineWord.T g.E.MachineWord.LANES s.differences s.width s.reference s.bytes.now) c.filter_form-told.ensures.mask)
