use Rattle.std.proofs.Common.{◌≤◌, ◌+◌, ◌*◌, ap, arith, length}
use Rattle.std.proofs.Math.Nat.{mul-le-mul_left}
use Rattle.fastlanes_rows.proofs.RowsStored.{stored_row}
use Rattle.fastlanes_rows.proofs.sixteen_lanes.RowSinkWordSinkRow.put_row.Goals as goal

pub returns-clause-stored : goal.returns-clause-stored
returns-clause-stored g c =
    let sink = c.args.self.now in
    let lanes = g.E.FastLanes.LANES in
    let below : lanes * (sink.written + 1) ≤ lanes * sink.width = mul-le-mul_left lanes (omega (arith, c.requires)) in
    let room : lanes * sink.written + sink.lane + 16 ≤ length sink.packed.now = omega (arith, below, sink.lanes_fit, sink.whole) in
    rw g.met.E.RowTypes.sixteen_law
    (stored_row _ _ _ _ _ _ _ c.array_of_row.ensures.long room c.array_of_row.ensures.each (ap (λ s. s.words) c.put_row.ensures))
