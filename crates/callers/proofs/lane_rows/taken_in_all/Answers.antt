use Rattle.std.proofs.Common.{ap, arith, ◌∙◌}
use Rattle.callers.proofs.Rows.{begun_first, begun_last, carries_first}
use Rattle.callers.proofs.lane_rows.taken_in_all.Goals as goal

pub loop-row-init : goal.loop-row-init
loop-row-init g c =
    let none = begun_first g.E.FastLanes.T c.args.width (omega (arith, g.met.E.FastLanes.bits_law)) in (
      c.new-words.ensures ∙ ap (λ n. record { words = c.args.packed.now; width = c.args.width; lane = 0; count = n }) none,
      carries_first _ _ _ _ _ _ _,
    )

pub returns : goal.returns
returns g c =
    c.taken.ensures ∙ ap (λ s. s.count) c.loop-row.invariant.0
    ∙ begun_last _ _ _ (omega (arith, g.met.E.FastLanes.bits_law)) (omega arith)

pub loop-row-preserved : goal.loop-row-preserved
loop-row-preserved g c =
    let step = c.unpack_row_from-digits.ensures in
    let old = c.loop-row.invariant in
    (rw old.0 at step.taken, rw old.0 at step.carry.carried)
