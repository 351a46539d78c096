use Rattle.fastlanes.proofs.ffor.for_pack.Goals as goal

pub returns : goal.returns
returns g c = let is = c.for_pack_at.ensures in record { packed = is.packed; digits = is.digits; places = is.places; comes_back = is.comes_back; block_comes_back = is.block_comes_back }
