use Rattle.std.proofs.Common.{◌≡◌, ◌+◌, ◌*◌, ◌≤◌, length, arith}
use Rattle.fastlanes_rows.proofs.block_walk.digits_of.Goals as goal

pub invariant_of-result : goal.invariant_of-result
invariant_of-result g c =
    let fits : c.args.width ≤ g.E.MachineWord.T = c.requires.width in
    let whole : length c.args.packed.now ≡ g.E.MachineWord.LANES * c.args.width = c.requires.words in
    let lanes : 0 + g.V.RowVector.N ≤ g.E.MachineWord.LANES = omega (arith, c.requires.groups.1) in
    (fits, lanes, whole)
