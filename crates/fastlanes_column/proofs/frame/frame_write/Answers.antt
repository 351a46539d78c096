use Rattle.fastlanes_column.proofs.frame.frame_write.Goals as goal

pub returns : goal.returns
returns g c = let is = c.unchecked_for_pack.ensures in record { packed = is.packed; block_comes_back = is.block_comes_back }
