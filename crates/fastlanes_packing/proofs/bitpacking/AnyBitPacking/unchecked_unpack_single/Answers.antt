use Rattle.fastlanes_packing.proofs.bitpacking.AnyBitPacking.unchecked_unpack_single.Goals as goal

pub returns : goal.returns
returns g c = c.probe_place.ensures
