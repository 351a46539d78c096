use Rattle.std.proofs.Common.{◌*◌, ◌∙◌, ap, arith, inl, inr, rules}
use Rattle.std.proofs.lemmas.Bool.{cases_lt}
use Rattle.fastlanes.specs.Bits.{block_bit}
use Rattle.fastlanes_pages.proofs.MaskBits.{cleared_before, cleared_here, cut, mask_of_first, past_end}
use Rattle.fastlanes_pages.proofs.masks.keep_first.Goals as goal
use Rattle.fastlanes_pages.proofs.masks.keep_first.Goals.{then-whole-lt16, else-whole-lt16}

pub loop-k-init : goal.loop-k-init
loop-k-init c = elim c.if-whole-lt16.branch [
  | then-whole-lt16 w ↦
      let cut = cut c.args.mask.now c.if-whole-lt16.mask c.args.len _ w.mask-is (search rules) c.told-mask (omega (arith, w.if-whole-lt16.true)) in
      record { long = c.if-whole-lt16.array_long; kept = cut.0; gone = cut.1 }
  | else-whole-lt16 w ↦ record {
    long = c.if-whole-lt16.array_long;
    kept = λ i below. ap (λ m. block_bit m i) w.mask-is;
    gone = λ i above until. ap (λ m. block_bit m i) w.mask-is ∙ past_end c.args.mask.now i c.told-mask (omega (arith, w.if-whole-lt16.false));
  }
]

pub loop-k-preserved : goal.loop-k-preserved
loop-k-preserved c =
    let l = c.loop-k in
    record {
      long = search rules;
      kept = λ i below. cleared_before l.mask l.k i (omega arith) ∙ l.invariant.kept i below;
      gone = λ i above until. elim (cases_lt i (64 * l.k)) [
        | inl before ↦ cleared_before l.mask l.k i before ∙ l.invariant.gone i above before
        | inr here ↦ cleared_here l.mask l.k i (omega (arith, l.invariant.long)) here until
      ];
    }

pub returns : goal.returns
returns c = λ test values mask.
    mask_of_first test values c.args.mask.now c.loop-k.mask c.args.len c.told-mask c.loop-k.invariant.long c.loop-k.invariant.kept
    (λ i above inside. c.loop-k.invariant.gone i above (omega arith)) mask
