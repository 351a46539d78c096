use Rattle.fastlanes.proofs.delta.undelta_pack.Goals as goal

pub returns : goal.returns
returns g c = c.undelta_pack_at.ensures
