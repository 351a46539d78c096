use Rattle.std.proofs.Common.{◌∙◌, ap, length, sym}
use Rattle.std.proofs.lemmas.List.{length-map}
use Rattle.fastlanes_pages.proofs.ColumnParts.{form_long}
use Rattle.fastlanes_pages.proofs.block.Block.read_whole.Goals as goal

pub returns-clause-whole : goal.returns-clause-whole
returns-clause-whole g c =
    let s = c.self.inside in
    sym (length-map c.read_form.new.output g.E.MachineWord.number) ∙ ap length c.read_form.ensures.values
    ∙ form_long g.E.MachineWord.T g.E.MachineWord.LANES s.differences s.width s.reference s.bytes.now
