use Rattle.std.proofs.Common.{◌<◌, refl, arith, length, zero-add}
use Rattle.fastlanes_rows.proofs.RowsStored.{stored_one}
use Rattle.fastlanes_rows.proofs.vector.LoneRowVector.put.Goals as goal

pub returns-clause-each : goal.returns-clause-each
returns-clause-each g c j within =
    let room : 0 < length c.args.words.now = omega (arith, c.requires) in
    let put = stored_one g.E.MachineWord.number 0 c.args.self.0 c.args.words.now _ room refl in
    rw (zero-add j) at (put.here j within)
