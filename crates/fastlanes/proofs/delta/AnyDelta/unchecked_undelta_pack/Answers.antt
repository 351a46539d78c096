use Rattle.fastlanes.proofs.delta.AnyDelta.unchecked_undelta_pack.Goals as goal

pub returns : goal.returns
returns g c = c.at_width.ensures
