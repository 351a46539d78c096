use Rattle.std.proofs.Common.{◌<◌, ◌∙◌, arith, get_or, length, sym}
use Rattle.std.proofs.lemmas.List.{get_or-map}
use Rattle.fastlanes_column.proofs.Neighbours.{precedes_all, precedes_more, precedes_none}
use Rattle.fastlanes_column.proofs.differences.put_before.Goals as goal

pub loop-lane-init : goal.loop-lane-init
loop-lane-init g c = precedes_none g.E.FastLanes.number _ _ _ c.put_one_on.new.after (c.put_one_on.auto.after ∙ c.told-before) c.put_one_on.ensures

pub loop-lane-preserved : goal.loop-lane-preserved
loop-lane-preserved g c =
    let number = g.E.FastLanes.number in
    let lane = c.loop-lane.lane in
    let inside : lane < length c.args.base.now = omega (arith, c.told-base, c.loop-lane-test.true) in
    precedes_more number _ g.E.FastLanes.LANES lane c.transpose.result _ _ c.loop-lane.before (get_or c.args.base.now lane c.index-base-lane.result) g.met.E.FastLanes.layout_law
    (omega (arith, c.requires.lanes, c.loop-lane-test.true)) c.transpose.ensures
    (sym (get_or-map number c.args.base.now lane c.index-base-lane.result 0 inside)) c.loop-lane.invariant

pub returns : goal.returns
returns g c = precedes_all _ g.E.FastLanes.LANES c.loop-lane.lane _ _ _ (omega (arith, c.requires.lanes, c.loop-lane-test.false)) c.loop-lane.invariant
