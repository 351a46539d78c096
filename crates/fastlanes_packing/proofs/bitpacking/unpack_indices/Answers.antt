use Rattle.fastlanes_packing.proofs.bitpacking.unpack_indices.Goals as goal

pub returns : goal.returns
returns g c = c.unpack_indices_at.ensures
