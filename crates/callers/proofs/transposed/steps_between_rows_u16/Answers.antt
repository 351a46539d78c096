use Rattle.std.proofs.Common.{◌+◌, arith}
use Rattle.fastlanes.proofs.Callers.{layout_16, neighbours_of_a_lane}
use Rattle.callers.proofs.transposed.steps_between_rows_u16.Goals as goal

pub returns : goal.returns
returns c =
    let next = neighbours_of_a_lane 16 64 (c.args.row + 1) c.args.lane layout_16 c.requires.row c.requires.lane in
    let this = neighbours_of_a_lane 16 64 c.args.row c.args.lane layout_16 (omega (arith, c.requires.row)) c.requires.lane in
    rw (c.transpose.ensures, c.transpose-2.ensures, c.index.ensures, c.index-2.ensures) (omega (arith, next, this))
