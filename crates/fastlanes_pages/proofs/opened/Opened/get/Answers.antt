use Rattle.std.proofs.Common.{◌%◌, ◌∙◌, ap, get_or}
use Rattle.fastlanes_pages.proofs.ColumnParts.{block_reaches, in_its_block}
use Rattle.fastlanes_pages.specs.ColumnValues.{column_values}
use Rattle.fastlanes_pages.proofs.opened.Opened.get.Goals as goal

pub get-requires : goal.get-requires
get-requires g c =
    rw (ap (λ b. b.values) c.block.ensures) (block_reaches (column_values g.E.MachineWord.T g.E.MachineWord.LANES c.args.self.now.bytes.now) c.args.i c.requires.index)

pub returns : goal.returns
returns g c =
    c.get.ensures ∙ ap (λ b. get_or b.values (c.args.i % 1024) 0) c.block.ensures
    ∙ in_its_block (column_values g.E.MachineWord.T g.E.MachineWord.LANES c.args.self.now.bytes.now) c.args.i
