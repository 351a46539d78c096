use Rattle.fastlanes_masks.proofs.BitMoves.{holds_lanes}
use Rattle.fastlanes_masks.proofs.ByteTables.{group_rows-lt}
use Rattle.fastlanes_masks.proofs.bit_transpose.scalar.lanes_of_group.Goals as goal

pub gathered-requires : goal.gathered-requires
gathered-requires g c = rw c.T-eights.ensures (group_rows-lt g.E.MachineWord.T c.args.k g.met.E.MachineWord.bits_law c.requires)

pub returns : goal.returns
returns g c =
    let bytes = rw c.T-eights.ensures at c.gathered.ensures in
    holds_lanes g.E.MachineWord.T _ _ _ _ bytes c.transpose_8x8.ensures
