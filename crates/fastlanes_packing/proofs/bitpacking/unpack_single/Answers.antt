use Rattle.fastlanes_packing.proofs.bitpacking.unpack_single.Goals as goal

pub returns : goal.returns
returns g c = c.unchecked_unpack_single.ensures
