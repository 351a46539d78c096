use Rattle.std.proofs.Common.{arith, sym, ◌∙◌}
use Rattle.std.proofs.lemmas.List.{get_or-map}
use Rattle.fastlanes_blocks.proofs.Summed.{lanes_sum_more}
use Rattle.fastlanes_blocks.proofs.sum.sum_of_lanes.Goals as goal

pub loop-j-preserved : goal.loop-j-preserved
loop-j-preserved g c =
    let one = sym (get_or-map g.E.FastLanes.number c.lanes_of-lanes.result c.loop-j.j c.index-lanes-j.result 0 (omega (arith, c.lanes_of-lanes.type_inv))) ∙ c.lanes_of-lanes.ensures c.loop-j.j (omega (arith, c.loop-j-test.true, c.N-j-end.ensures)) in
    omega (arith, lanes_sum_more c.loop-j.j (g.V.RowVector.at c.args.row), c.loop-j.invariant, c.number_of-sum.ensures, one)
