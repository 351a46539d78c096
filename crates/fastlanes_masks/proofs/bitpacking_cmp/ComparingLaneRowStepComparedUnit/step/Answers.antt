use Rattle.std.proofs.Common.{◌*◌, ◌%◌, ◌^◌, ◌∙◌, ℕ, ap, bit_or, refl}
use Rattle.fastlanes_masks.proofs.Answering.{bit_small, gathered_more}
use Rattle.fastlanes_masks.proofs.bitpacking_cmp.ComparingLaneRowStepComparedUnit.step.Goals as goal

pub returns-clause-stands : goal.returns-clause-stands
returns-clause-stands g c =
    let (narrow, long, in_lanes, callable, gathered) = c.requires.stands in
    let answer = rw c.W.ensures at c.compare_row-answer.ensures in
    let more = gathered_more g.E.MachineWord.T c.args.row _ _ _ _ _ c.requires.row (bit_small c.compare_row-answer.result)
    (c.or.ensures.value ∙ ap (bit_or (g.E.MachineWord.number c.args.word)) (c.up.ensures.value ∙ ap (λ (bit : ℕ). bit * 2 ^ c.args.row % 2 ^ g.E.MachineWord.T) c.bit_of.ensures))
    (answer.0, answer.1, c.compare_row-answer.result, answer.2, refl) gathered in
    (narrow, long, in_lanes, callable, more)
