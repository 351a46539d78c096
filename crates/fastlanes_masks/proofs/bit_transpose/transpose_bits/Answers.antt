use Rattle.fastlanes_masks.proofs.bit_transpose.transpose_bits.Goals as goal

pub returns : goal.returns
returns g c = let is = c.transpose_bits_lanes.ensures in record { moved = is.moved; undone = is.undone }
