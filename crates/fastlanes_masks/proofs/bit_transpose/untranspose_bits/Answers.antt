use Rattle.fastlanes_masks.proofs.bit_transpose.untranspose_bits.Goals as goal

pub returns : goal.returns
returns g c = let is = c.untranspose_bits_lanes.ensures in record { moved = is.moved; undone = is.undone }
