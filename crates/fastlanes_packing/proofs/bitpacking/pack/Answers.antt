use Rattle.fastlanes_packing.proofs.bitpacking.pack.Goals as goal

pub returns : goal.returns
returns g c = let is = c.pack_at.ensures in record { packed = is.packed; digits = is.digits; places = is.places }
