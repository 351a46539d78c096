use Rattle.fastlanes_packing.proofs.bitpacking.unpack.Goals as goal

pub returns : goal.returns
returns g c = let is = c.unpack_at.ensures in record { digits = is.digits; places = is.places; below = is.below; packs = is.packs; only = is.only }
