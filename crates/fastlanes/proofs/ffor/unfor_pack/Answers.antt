use Rattle.fastlanes.proofs.ffor.unfor_pack.Goals as goal

pub returns : goal.returns
returns g c = c.unfor_pack_at.ensures
