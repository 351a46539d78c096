use Rattle.fastlanes_packing.proofs.bitpacking.AnyBitPacking.unchecked_unpack.Goals as goal

pub returns : goal.returns
returns g c = let is = c.at_width.ensures in record { digits = is.digits; places = is.places; below = is.below; packs = is.packs; only = is.only }
