use Rattle.std.proofs.Common.{◌+◌, ◌*◌, ◌/◌, ◌<◌, ap, arith, length, rules, ◌∙◌}
use Rattle.std.proofs.lemmas.List.{length-set}
use Rattle.fastlanes_packing.proofs.SingleDigits.{entry_more}
use Rattle.callers.proofs.Rows.{none_left, none_written}
use Rattle.callers.proofs.lane_rows.written_by_rows.Goals as goal

pub loop-row-init : goal.loop-row-init
loop-row-init g c = (
  ap (λ s. s.width) c.new-sink.ensures,
  ap (λ s. s.count) c.new-sink.ensures ∙ none_written _ _,
  λ j within. none_left _ _ _ (c.requires.none j within),
  c.requires.rows,
  λ k below. absurd (omega arith),
)

pub loop-row-preserved : goal.loop-row-preserved
loop-row-preserved g c =
    let long = c.loop-row.invariant.3 in
    let step = c.pack_row_into.ensures in
    let inside : c.loop-row.row < length c.loop-row.written = omega (arith, long, c.loop-row-test.true, c.T-row-end.ensures) in (
      search rules,
      step.written,
      step.carry,
      length-set _ _ _ ∙ long,
      entry_more (λ k. (k + 1) * c.args.width / g.E.FastLanes.T) _ _ _ inside (c.written.ensures ∙ step.written) c.loop-row.invariant.4,
    )

pub returns : goal.returns
returns g c = λ row below. c.loop-row.invariant.4 row (omega arith)
