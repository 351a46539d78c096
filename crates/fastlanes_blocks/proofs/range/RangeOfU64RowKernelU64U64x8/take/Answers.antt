use Rattle.std.proofs.Common.{arith, ap, max, min, slice_index, ◌∙◌}
use Rattle.fastlanes_blocks.proofs.Ranges.{greatest_more, least_more, short_digits}
use Rattle.fastlanes_blocks.proofs.range.RangeOfU64RowKernelU64U64x8.take.Goals as goal

pub returns-then-width-le32 : goal.returns-then-width-le32
returns-then-width-le32 c = record {
  took = λ before held room below.
      let same = short_digits 8 c.args.width _ _ c.if-width-le32.true below c.shortened-short.ensures in (
        λ short. (
          least_more 32 8 _ _ (slice_index c.args.digits) _ before (λ j inside. c.lesser-self.ensures j inside ∙ ap (min _) (same j inside)) (held.0 short).0,
          greatest_more 8 _ _ (slice_index c.args.digits) _ before (λ j inside. c.greater-self.ensures j inside ∙ ap (max _) (same j inside)) (held.0 short).1,
        ),
        λ long. absurd (omega (arith, long, c.if-width-le32.true)),
      );
}

pub returns-else-width-le32 : goal.returns-else-width-le32
returns-else-width-le32 c = record {
  took = λ before held room below. (
    λ short. absurd (omega (arith, short, c.if-width-le32.false)),
    λ long. (least_more 64 8 _ _ _ _ before c.lesser-self-else-width-le32.ensures (held.1 long).0, greatest_more 8 _ _ _ _ before c.greater-self-else-width-le32.ensures (held.1 long).1),
  );
}
