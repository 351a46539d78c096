use Rattle.fastlanes_column.proofs.Neighbours.{one_on}
use Rattle.fastlanes_column.proofs.differences.put_one_on.Goals as goal

pub returns : goal.returns
returns g c = λ j some inside.
    one_on g.E.MachineWord.number c.args.block.now c.args.after.now c.copy_from_slice.new.self j c.told-block c.requires c.copy_from_slice.ensures.after some inside
