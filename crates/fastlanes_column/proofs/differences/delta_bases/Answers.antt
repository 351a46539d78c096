use Rattle.std.proofs.Common.{◌<◌, List, ℕ, length, map, ap, ◌∙◌, arith}
use Rattle.std.proofs.lemmas.List.{length-map, length-set}
use Rattle.fastlanes.specs.Delta.{deltas}
use Rattle.fastlanes.specs.Order.{transposed_index}
use Rattle.fastlanes.specs.Transposition.{transposed}
use Rattle.fastlanes_column.specs.Differences.{value_before}
use Rattle.fastlanes_column.proofs.Neighbours.{all_bases, deltas_of_neighbours, least_width_of_neighbours}
use Rattle.fastlanes_column.proofs.Written.{written_more}
use Rattle.fastlanes_column.proofs.differences.delta_bases.Goals as goal

pub loop-lane-init : goal.loop-lane-init
loop-lane-init g c = (omega arith, λ k below. absurd (omega arith))

pub loop-lane-preserved : goal.loop-lane-preserved
loop-lane-preserved g c =
    let number = g.E.FastLanes.number in
    let value = λ (k : ℕ). value_before (number c.args.before) (map number c.args.block.now) (transposed_index k) in
    let inside : c.loop-lane.lane < length c.loop-lane.base = omega (arith, c.loop-lane.invariant.0) in (
      rw (length-set c.loop-lane.base c.loop-lane.lane c.value_before_place.result) c.loop-lane.invariant.0,
      written_more number c.loop-lane.base c.loop-lane.lane c.value_before_place.result 0 value inside c.loop-lane.invariant.1
          (c.value_before_place.ensures ∙ ap (value_before (number c.args.before) (map number c.args.block.now)) c.transpose.ensures),
    )

pub returns-clause-bases : goal.returns-clause-bases
returns-clause-bases g c =
    let number = g.E.FastLanes.number in
    all_bases g.E.FastLanes.LANES (number c.args.before) (map number c.args.block.now) (map number c.loop-lane.base) c.loop-lane.lane
    (rw length-map c.loop-lane.invariant.0) (omega arith) c.loop-lane.invariant.1

pub returns-clause-differences : goal.returns-clause-differences
returns-clause-differences g c =
    let number = g.E.FastLanes.number in
    ap (λ (b : List ℕ). deltas g.E.FastLanes.T g.E.FastLanes.LANES b (transposed (map number c.args.block.now))) (returns-clause-bases g c)
    ∙ deltas_of_neighbours g.E.FastLanes.T g.E.FastLanes.LANES (number c.args.before) (map number c.args.block.now) g.met.E.FastLanes.layout_law

pub returns-clause-width : goal.returns-clause-width
returns-clause-width g c = λ w.
    let number = g.E.FastLanes.number in
    least_width_of_neighbours g.E.FastLanes.T g.E.FastLanes.LANES (number c.args.before) w (map number c.loop-lane.base) (map number c.args.block.now)
    g.met.E.FastLanes.layout_law (returns-clause-bases g c)
