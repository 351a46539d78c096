use Rattle.std.proofs.Common.{◌<◌, ◌∙◌, arith, get_or, length, refl, sym}
use Rattle.fastlanes_rows.proofs.RowDigits.{number_at_place}
use Rattle.fastlanes_packing.proofs.SingleDigits.{chosen_all, chosen_more}
use Rattle.fastlanes_packing.proofs.Unpacking.{digit_of_all}
use Rattle.fastlanes_packing.proofs.bitpacking.take_places.Goals as goal

pub loop-j-preserved : goal.loop-j-preserved
loop-j-preserved g c =
    let in_block : get_or c.args.indices.now c.loop-j.j 0 < length c.args.block.now = rw c.requires.block (c.requires.indices c.loop-j.j 0 c.loop-j-test.true) in
    chosen_more _ _ _ _ _ (omega arith)
    (sym (number_at_place g.E.MachineWord.number c.args.block.now _ _ _ refl in_block c.index-block-indices.is)) c.loop-j.invariant

pub returns : goal.returns
returns g c = λ w p is.
    chosen_all _ _ _ _ _ (omega arith) (omega arith) (λ k before.
    c.loop-j.invariant k before ∙ digit_of_all _ _ w _ p _ (c.requires.indices k 0 (omega arith)) is)
