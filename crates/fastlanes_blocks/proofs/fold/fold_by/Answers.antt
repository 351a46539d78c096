use Rattle.std.proofs.Common.{◌≡◌, ◌*◌, subst, arith}
use Rattle.fastlanes_blocks.proofs.Walked.{digits_below, walked_whole}
use Rattle.fastlanes_blocks.proofs.fold.fold_by.Goals as goal

pub walk_block-requires-clause-done : goal.walk_block-requires-clause-done
walk_block-requires-clause-done g c =
    let first : 0 * g.E.MachineWord.T * g.V.RowVector.N ≡ 0 = omega arith in
    (digits_below _ _ _ _, 0, omega arith, rw (first, c.W-2.ensures) c.requires.took)

pub returns : goal.returns
returns g c =
    let (below, group, all, took) = c.walk_block.ensures.done in
    let same = rw (c.W-2.ensures, c.digits_of-digits.ensures.words) at took in
    subst (λ l. g.K.RowKernel.took g.N.Width.W c.walk_block.new.writer.kernel l) (walked_whole _ _ _ _ group _ g.met.E.MachineWord.layout_law all) same
