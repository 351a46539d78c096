use Rattle.std.proofs.Common.{◌∙◌, ℕ, List, ap, map, subst}
use Rattle.fastlanes.specs.Delta.{SmallOnesComeBack, deltas}
use Rattle.fastlanes_column.proofs.differences.neighbour_differences.Goals as goal

pub returns-clause-differences : goal.returns-clause-differences
returns-clause-differences g c =
    c.delta.ensures.differences ∙ ap (deltas g.E.FastLanes.T g.E.FastLanes.LANES (map g.E.FastLanes.number c.args.base.now)) c.transpose.ensures.moved

pub returns-clause-back : goal.returns-clause-back
returns-clause-back g c = rw c.transpose.ensures.moved at c.transpose.ensures.back

pub returns-clause-comes_back : goal.returns-clause-comes_back
returns-clause-comes_back g c = λ w within.
    let t = g.E.FastLanes.T in
    let lanes = g.E.FastLanes.LANES in
    let base = map g.E.FastLanes.number c.args.base.now in
    subst (λ (v : List ℕ). SmallOnesComeBack t lanes w base v (deltas t lanes base v)) c.transpose.ensures.moved
    (rw c.delta.ensures.differences at (c.delta.ensures.comes_back w within))
