use Rattle.flblock.proofs.Ramps.{words_le}
use Rattle.flblock.proofs.element.packed_len.Goals as goal

pub returns-clause-room : goal.returns-clause-room
returns-clause-room g c = rw c.LANES.ensures (words_le g.E.MachineWord.T g.E.MachineWord.LANES c.args.width g.met.E.MachineWord.lanes_law c.requires)
