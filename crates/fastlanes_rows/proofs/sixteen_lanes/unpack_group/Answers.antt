use Rattle.std.proofs.Common.{◌<◌, map, refl, ap, sym, ◌∙◌, arith}
use Rattle.fastlanes_rows.proofs.Begun.{begun_all}
use Rattle.fastlanes_rows.proofs.RowsPlaced.{lanes_unpacked, rows_beside_none}
use Rattle.fastlanes_rows.proofs.sixteen_lanes.unpack_group.Goals as goal

pub returns-clause-digits : goal.returns-clause-digits
returns-clause-digits g c =
    let walked = c.walk_group-last.ensures in
    let words = ap (λ s. map g.E.FastLanes.number s.words) (walked.read_beside c.args.words.now refl) in
    rw (sym g.met.E.RowTypes.sixteen_law) (lanes_unpacked _ _ _ _ _ _ _ _ _ _ c.lane-lane.ensures.value words walked.holds
    (walked.beside c.args.output.now (rows_beside_none _ _ _ _ _)))

pub returns-clause-taken : goal.returns-clause-taken
returns-clause-taken g c =
    let some : 0 < g.E.FastLanes.T = omega (arith, g.met.E.FastLanes.bits_law) in
    let walked = c.walk_group-last.ensures in
    walked.read_beside c.args.words.now refl
    ∙ ap (λ k. record c.args.words.now { count = k }) (walked.stands.count ∙ begun_all g.E.FastLanes.T c.args.width some)
