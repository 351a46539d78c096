use Rattle.std.proofs.Common.{◌∙◌, ap, length, sym}
use Rattle.std.proofs.lemmas.List.{length-map}
use Rattle.fastlanes_pages.proofs.ColumnParts.{form_long}
use Rattle.fastlanes_pages.proofs.reading.read_block.Goals as goal

pub returns-clause-whole : goal.returns-clause-whole
returns-clause-whole g c =
    sym (length-map c.read_form.new.output g.E.MachineWord.number) ∙ ap length c.read_form.ensures.values
    ∙ form_long g.E.MachineWord.T g.E.MachineWord.LANES _ _ _ _
