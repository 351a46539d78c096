use Rattle.std.proofs.Common.{◌≤◌, ap, rules}
use Rattle.std.proofs.lemmas.List.Elements.{All-take}
use Rattle.fastlanes_pages.proofs.FormBounds.{lie_between}
use Rattle.fastlanes_pages.specs.ColumnValues.{form_values}
use Rattle.fastlanes_pages.proofs.block.Block.bounds.Goals as goal

pub returns : goal.returns
returns g c =
    let t = g.E.MachineWord.T in
    let lanes = g.E.MachineWord.LANES in
    let s = c.self.inside in
    let values = form_values t lanes s.differences s.width s.reference s.bytes.now in
    let least = g.E.MachineWord.number c.bounds_of_form.result.0 in
    let greatest = g.E.MachineWord.number c.bounds_of_form.result.1 in
    let bounds = c.bounds_of_form.ensures in
    let is = lie_between t lanes g.met.E.MachineWord.layout_law s.width s.reference s.bytes.now s.differences least greatest bounds.least bounds.greatest in
    record {
      least_is = search rules;
      greatest_is = search rules;
      least = rw (ap (λ b. b.values) c.self.view_is) at (All-take (λ x. least ≤ x) s.len values is.0);
      greatest = rw (ap (λ b. b.values) c.self.view_is) at (All-take (λ x. x ≤ greatest) s.len values is.1);
    }
