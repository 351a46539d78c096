use Rattle.std.proofs.Common.{length, rules}
use Rattle.fastlanes_pages.proofs.ColumnParts.{part_read}
use Rattle.fastlanes_pages.proofs.block.Block.read_by_block.Goals as goal

pub returns-clause-values : goal.returns-clause-values
returns-clause-values g c =
    part_read g.E.MachineWord.number c.read_whole.new.output c.copy_from_slice.new.self c.args.from (length c.args.output.now) c.args.self.now.values
    c.read_whole.ensures.values (search rules) c.requires
