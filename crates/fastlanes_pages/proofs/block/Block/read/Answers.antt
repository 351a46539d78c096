use Rattle.std.proofs.Common.{rules}
use Rattle.fastlanes_pages.proofs.ColumnParts.{whole_read}
use Rattle.fastlanes_pages.proofs.block.Block.read.Goals as goal

pub returns-in-Some-clause-values : goal.returns-in-Some-clause-values
returns-in-Some-clause-values g c =
    whole_read g.E.MachineWord.number c.read_whole.new.output c.args.output.now c.args.from c.args.self.now.values c.read_whole.ensures.values c.read_whole.ensures.whole
    (search rules) c.requires c.read_whole.ensures.most
