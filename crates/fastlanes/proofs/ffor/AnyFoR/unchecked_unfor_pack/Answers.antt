use Rattle.fastlanes.proofs.ffor.AnyFoR.unchecked_unfor_pack.Goals as goal

pub returns : goal.returns
returns g c = c.at_width.ensures
