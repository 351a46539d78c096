use Rattle.std.proofs.Common.{arith, lit<, map, refl, subst}
use Rattle.fastlanes_base.specs.Order.{place}
use Rattle.fastlanes_masks.specs.Mask.{IsComparable}
use Rattle.fastlanes_rows.proofs.RowDigits.{digit-place}
use Rattle.fastlanes_masks.proofs.Answering.{mask_of_zeros}
use Rattle.fastlanes_masks.proofs.bitpacking_cmp.compare_zeros.Goals as goal

pub compare_row-answer-requires-clause-callable : goal.compare_row-answer-requires-clause-callable
compare_row-answer-requires-clause-callable g c =
    let layout = g.met.E.MachineWord.layout_law in
    let may = IsComparable g.E.MachineWord.number g.V.FastLanesComparable.unpacked (λ a b. g.F.Fn.pre c.args.comparison (a, (b, tt))) c.args.value in
    subst may (digit-place g.E.MachineWord.T g.E.MachineWord.LANES c.args.width 0 0 (map g.E.MachineWord.number c.args.input.now) layout
    (grind (arith, layout.size, layout.area)) (grind (arith, layout.size))) (c.requires.callable (place 0 0) (lit< tt))

pub returns : goal.returns
returns g c =
    mask_of_zeros _ _ _ _ _ _ _ g.met.E.MachineWord.layout_law c.requires.width
    (c.compare_row-answer.ensures.0, c.compare_row-answer.ensures.1, c.compare_row-answer.result, c.compare_row-answer.ensures.2, refl) c.answer_all.ensures
