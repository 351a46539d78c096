use Rattle.std.proofs.Common.{◌<◌, arith}
use Rattle.fastlanes_packing.proofs.SingleDigits.{bit_place_below}
use Rattle.fastlanes_packing.proofs.single.bit_place.Goals as goal

pub returns-clause-within : goal.returns-clause-within
returns-clause-within g c =
    let some : 0 < g.E.MachineWord.T = omega (arith, g.met.E.MachineWord.bits_law) in
    rw (c.LANES.ensures, c.T.ensures) (bit_place_below _ _ _ _ _ some c.requires.lane c.requires.bit)
