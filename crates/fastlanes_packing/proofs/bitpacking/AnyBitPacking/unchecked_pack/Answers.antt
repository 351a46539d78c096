use Rattle.fastlanes_packing.proofs.bitpacking.AnyBitPacking.unchecked_pack.Goals as goal

pub returns : goal.returns
returns g c = let is = c.at_width.ensures in record { packed = is.packed; digits = is.digits; places = is.places }
