use Rattle.fastlanes_masks.proofs.Answering.{whole_mask}
use Rattle.fastlanes_masks.proofs.bitpacking_cmp.ComparingAtWidthTuple2RefU64.at.Goals as goal

pub returns-in-Some : goal.returns-in-Some
returns-in-Some g c = whole_mask _ _ _ _ c.compare_block.new.output c.args.output.now c.requires.2 c.compare_block.ensures
