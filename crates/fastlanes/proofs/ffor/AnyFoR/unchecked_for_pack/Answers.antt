use Rattle.fastlanes.proofs.ffor.AnyFoR.unchecked_for_pack.Goals as goal

pub returns : goal.returns
returns g c = let is = c.at_width.ensures in record { packed = is.packed; digits = is.digits; places = is.places; comes_back = is.comes_back; block_comes_back = is.block_comes_back }
