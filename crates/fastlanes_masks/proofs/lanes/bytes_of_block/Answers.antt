use Rattle.fastlanes_masks.proofs.ByteLanes.{bytes_of_sixteen}
use Rattle.fastlanes_masks.proofs.lanes.bytes_of_block.Goals as goal

pub returns : goal.returns
returns c n within =
    bytes_of_sixteen c.args.words.now _ _ n c.told-words c.bytes_of.ensures.long c.bytes_of.ensures.bytes c.bytes_of-2.ensures.bytes within
