use Rattle.std.proofs.Common.{refl}
use Rattle.fastlanes_blocks.specs.Comparisons.{at_most, equals, less_than}
use Rattle.fastlanes_blocks.proofs.Masks.{at_least_where_not_less, complement_tells, greater_where_not_at_most}
use Rattle.fastlanes_blocks.proofs.filters.compare.Goals as goal

pub returns-in-NotEqual : goal.returns-in-NotEqual
returns-in-NotEqual g c = complement_tells g.V.Ordered.integer (g.V.Ordered.value c.args.value) equals g.met.E.FastLanes.layout_law c.in-NotEqual.is
    (λ x. refl) c.equal-in-NotEqual.ensures c.complement.ensures

pub returns-in-Greater : goal.returns-in-Greater
returns-in-Greater g c = complement_tells g.V.Ordered.integer (g.V.Ordered.value c.args.value) at_most g.met.E.FastLanes.layout_law c.in-Greater.is
    (λ x. greater_where_not_at_most x _) c.not_greater-in-Greater.ensures c.complement-in-Greater.ensures

pub returns-in-AtLeast : goal.returns-in-AtLeast
returns-in-AtLeast g c = complement_tells g.V.Ordered.integer (g.V.Ordered.value c.args.value) less_than g.met.E.FastLanes.layout_law c.in-AtLeast.is
    (λ x. at_least_where_not_less x _) c.less-in-AtLeast.ensures c.complement-in-AtLeast.ensures
