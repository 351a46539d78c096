use Rattle.std.proofs.Common.{◌≡◌}
use Rattle.fastlanes_format.proofs.ErrorTables.{if_err_from}
use Rattle.fastlanes_format.proofs.NoRoom.{never_room}
use Rattle.fastlanes_format.specs.Errors.{IsColumnError}
use Rattle.fastlanes_format.specs.Format.{AreColumn}
use Rattle.fastlanes_format.specs.declared.flaw.Flaw.TheVariants.{Room}
use Rattle.fastlanes_format.specs.declared.flaw.FormatError.{FormatError}
use Rattle.fastlanes_pages.proofs.column.decode.Goals as goal

pub returns-in_err-column-clause-error : goal.returns-in_err-column-clause-error
returns-in_err-column-clause-error g c =
    let t = g.E.MachineWord.T in
    let bytes = c.args.bytes.now in
    let error = c.in_err-column.ensures.error in
    if_err_from c.from_residual.result (λ (e : FormatError). ¬ (AreColumn t bytes) → IsColumnError t bytes e) c.in_err-column.field-0.0 c.from_residual.ensures
    (λ none. error)

pub returns-in_err-column-clause-only_room : goal.returns-in_err-column-clause-only_room
returns-in_err-column-clause-only_room g c =
    let t = g.E.MachineWord.T in
    let bytes = c.args.bytes.now in
    let error = c.in_err-column.ensures.error in
    if_err_from c.from_residual.result (λ (e : FormatError). e.flaw ≡ Room → AreColumn t bytes) c.in_err-column.field-0.0 c.from_residual.ensures
    (λ room. absurd (never_room t bytes c.in_err-column.field-0.0 error room))
