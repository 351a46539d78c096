use Rattle.fastlanes_blocks.proofs.Given.{packed_block}
use Rattle.fastlanes_blocks.proofs.give.PackingFromAtWidth.at.Goals as goal

pub returns : goal.returns
returns g c = packed_block _ _ _ (g.S.RowSource.value_at c.args.source) _ g.met.E.MachineWord.layout_law (rw c.W.ensures at c.pack_all_of.ensures)
