use Rattle.std.proofs.Common.{◌+◌, ◌<◌, ap, arith, length, ◌∙◌}
use Rattle.std.proofs.lemmas.List.{length-set}
use Rattle.fastlanes.specs.Rows.{words_begun}
use Rattle.fastlanes_packing.proofs.SingleDigits.{entry_more}
use Rattle.callers.proofs.Rows.{begun_first, carries_first}
use Rattle.callers.proofs.lane_rows.taken_by_rows.Goals as goal

pub loop-row-init : goal.loop-row-init
loop-row-init g c =
    let none = begun_first g.E.FastLanes.T c.args.width (omega (arith, g.met.E.FastLanes.bits_law)) in (
      c.new-words.ensures ∙ ap (λ n. record { words = c.args.packed.now; width = c.args.width; lane = 0; count = n }) none,
      carries_first _ _ _ _ _ _ _,
      c.requires.rows,
      λ k below. absurd (omega arith),
    )

pub loop-row-preserved : goal.loop-row-preserved
loop-row-preserved g c =
    let (before, carries, long, each) = c.loop-row.invariant in
    let step = rw before at c.unpack_row_from-digits.ensures in
    let inside : c.loop-row.row < length c.loop-row.taken = omega (arith, long, c.loop-row-test.true, c.T-row-end.ensures) in (
      step.taken,
      step.carry.carried,
      length-set _ _ _ ∙ long,
      entry_more (λ k. words_begun g.E.FastLanes.T c.args.width (k + 1)) _ _ _ inside (c.taken.ensures ∙ ap (λ s. s.count) step.taken) each,
    )

pub returns : goal.returns
returns g c = λ row below. c.loop-row.invariant.3 row (omega arith)
