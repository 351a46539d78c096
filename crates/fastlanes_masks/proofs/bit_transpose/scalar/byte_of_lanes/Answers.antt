use Rattle.fastlanes_masks.proofs.ByteTables.{ungather_place-lt}
use Rattle.fastlanes_masks.proofs.bit_transpose.scalar.byte_of_lanes.Goals as goal

pub byte_of-requires : goal.byte_of-requires
byte_of-requires g c = rw (c.T-eights.ensures, c.T.ensures, c.T-2.ensures) (ungather_place-lt g.E.MachineWord.T c.args.n g.met.E.MachineWord.bits_law c.requires)

pub returns : goal.returns
returns g c = rw (c.T-eights.ensures, c.T.ensures, c.T-2.ensures) at c.byte_of.ensures
