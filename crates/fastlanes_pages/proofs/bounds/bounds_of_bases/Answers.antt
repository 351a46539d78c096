use Rattle.std.proofs.Common.{◌-◌, ◌<◌, ◌^◌, ◌∙◌, ap, arith, max, min}
use Rattle.fastlanes_pages.proofs.FrameWords.{word_is}
use Rattle.fastlanes_pages.proofs.SumBounds.{fold_more}
use Rattle.fastlanes_pages.proofs.bounds.bounds_of_bases.Goals as goal

pub loop-lane-init : goal.loop-lane-init
loop-lane-init g c =
    let number = g.E.FastLanes.number in
    let none = ap number c.zero.ensures ∙ g.met.E.FastLanes.zero_number_law in
    let one = ap number c.one.ensures ∙ g.met.E.FastLanes.one_number_law in
    record {
      least = word_is g.E.FastLanes.T _ _ _ none one c.minus.ensures.value;
      greatest = ap number c.zero-2.ensures ∙ g.met.E.FastLanes.zero_number_law;
    }

pub loop-lane-preserved : goal.loop-lane-preserved
loop-lane-preserved g c =
    let t = g.E.FastLanes.T in
    let lanes = g.E.FastLanes.LANES in
    let l = c.loop-lane in
    let inside : l.lane < lanes = omega (arith, c.loop-lane-test.true, c.LANES-lane-end.ensures) in
    let is = c.word_at-base.ensures.value in
    let bounds = c.wider-bounds.ensures in
    record {
      least = fold_more min t lanes (2 ^ t - 1) l.lane _ _ _ c.args.before.now inside is l.invariant.least bounds.least;
      greatest = fold_more max t lanes 0 l.lane _ _ _ c.args.before.now inside is l.invariant.greatest bounds.greatest;
    }
