use Rattle.std.proofs.Common.{◌≤◌, ◌<◌, ◌+◌, ◌*◌, ap, arith, length}
use Rattle.std.proofs.Math.Nat.{mul-le-mul_left}
use Rattle.fastlanes_rows.proofs.RowsStored.{stored_one}
use Rattle.fastlanes_rows.proofs.lone_lane.LaneSinkWordSinkLone.put_row.Goals as goal

pub returns-clause-stored : goal.returns-clause-stored
returns-clause-stored g c =
    let sink = c.args.self.now in
    let lanes = g.E.MachineWord.LANES in
    let below : lanes * (sink.written + 1) ≤ lanes * sink.width = mul-le-mul_left lanes (omega (arith, c.requires)) in
    let room : lanes * sink.written + sink.lane < length sink.packed.now = omega (arith, below, sink.lane_fits, sink.whole) in
    stored_one _ _ _ _ _ room (ap (λ s. s.words) c.put_word.ensures)
