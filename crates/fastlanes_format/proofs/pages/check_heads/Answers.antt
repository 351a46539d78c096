use Rattle.std.proofs.Common.{◌∙◌, sym}
use Rattle.fastlanes_format.proofs.ErrorTables.{err_from, first_block}
use Rattle.fastlanes_format.proofs.pages.check_heads.Goals as goal

pub returns-in_err-place-clause-error : goal.returns-in_err-place-clause-error
returns-in_err-place-clause-error c =
    let l = c.loop-block in
    let first = first_block c.args.bits c.args.page.now l.block c.args.blocks _ l.invariant.none (sym c.in_err-place.ensures.error) (c.loop-block-test.true) in
    err_from c.from_residual.result _ c.from_residual.ensures ∙ sym first
