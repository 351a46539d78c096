use Rattle.std.proofs.Common.{rules, ◌<◌, length, arith, refl, ◌∙◌}
use Rattle.callers.proofs.Rows.{begun_first, begun_last}
use Rattle.callers.proofs.Streams.{digits_more}
use Rattle.callers.proofs.streamed.unpack_streamed.Goals as goal

pub loop-row-preserved : goal.loop-row-preserved
loop-row-preserved g c =
    let (same, stands, long, before) = c.loop-row.invariant in
    let next = rw same at c.next_digits.ensures in
    let inside : c.loop-row.row < length c.loop-row.output = omega (arith, long, c.loop-row-test.true) in (
      next.same,
      next.stands,
      search rules,
      digits_more _ _ _ _ _ _ _ inside before next.digits,
    )

pub loop-row-init : goal.loop-row-init
loop-row-init g c = (
  refl,
  (c.requires.asked ∙ begun_first _ _ (omega (arith, g.met.E.FastLanes.bits_law)), λ some. absurd (omega (arith, c.requires.asked, some))),
  c.requires.output,
  λ k below. absurd (omega arith),
)

pub returns-clause-digits : goal.returns-clause-digits
returns-clause-digits g c = λ row below. c.loop-row.invariant.3 row (omega arith)

pub returns-clause-same : goal.returns-clause-same
returns-clause-same g c = c.loop-row.invariant.0

pub returns-clause-asked : goal.returns-clause-asked
returns-clause-asked g c = c.loop-row.invariant.1.0 ∙ begun_last _ _ _ (omega (arith, g.met.E.FastLanes.bits_law)) (omega arith)
