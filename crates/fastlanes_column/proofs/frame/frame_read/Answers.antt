use Rattle.fastlanes_column.proofs.frame.frame_read.Goals as goal

pub returns : goal.returns
returns g c = c.unchecked_unfor_pack.ensures
