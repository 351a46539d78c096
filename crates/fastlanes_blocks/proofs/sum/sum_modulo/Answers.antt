use Rattle.std.proofs.Common.{◌%◌, ◌^◌, ap, sym, ◌∙◌}
use Rattle.fastlanes_blocks.proofs.Orders.{walked_sum}
use Rattle.fastlanes_blocks.proofs.Summed.{lanes_fit, parts_total, summed_none, whole_total}
use Rattle.fastlanes_blocks.proofs.sum.sum_modulo.Goals as goal

pub fold_block-sums-requires-clause-took : goal.fold_block-sums-requires-clause-took
fold_block-sums-requires-clause-took g c =
    (g.met.E.FoldTypes.halves_law, lanes_fit _ _ _ g.met.E.FastLanes.layout_law g.met.E.FoldTypes.groups_law, summed_none _ _ _ _ (rw (c.zero.ensures, g.met.E.FastLanes.zero_number_law) at c.splat-none.ensures))

pub returns-then-cut-T : goal.returns-then-cut-T
returns-then-cut-T g c =
    let whole = sym c.bits_below_cut-cut.ensures ∙ c.if-cut-T.true ∙ c.T.ensures in
    c.sum_of_lanes-low.ensures ∙ whole_total _ _ _ _ _ _ whole c.fold_block-sums.ensures.2
    ∙ ap (λ x. x % 2 ^ 64) (walked_sum _ _ _ _ _ g.met.E.FastLanes.layout_law g.met.E.FoldTypes.groups_law)

pub returns-else-cut-T : goal.returns-else-cut-T
returns-else-cut-T g c =
    rw c.bits_below_cut-cut.ensures (parts_total _ _ _ _ _ _ _ _ c.sum_of_lanes-low.ensures c.sum_of_lanes.ensures c.fold_block-sums.ensures.2)
    ∙ ap (λ x. x % 2 ^ 64) (walked_sum _ _ _ _ _ g.met.E.FastLanes.layout_law g.met.E.FoldTypes.groups_law)
