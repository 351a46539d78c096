use Rattle.std.proofs.Common.{◌<◌, sym, arith}
use Rattle.fastlanes_rows.proofs.RowsHeld.{lanes_packed, words_beside_none}
use Rattle.fastlanes_rows.proofs.sixteen_lanes.pack_group.Goals as goal

pub returns : goal.returns
returns g c =
    let some : 0 < g.E.FastLanes.T = omega (arith, g.met.E.FastLanes.bits_law) in
    let walked = c.walk_group-rest.ensures in
    rw (sym g.met.E.RowTypes.sixteen_law) (lanes_packed _ _ _ _ _ _ _ _ _ _ some c.lane-lane.ensures.value (rw walked.same at walked.holds)
    (walked.beside c.args.sink.now (words_beside_none _ _ _ _ _)))
