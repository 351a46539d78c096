use Rattle.std.proofs.Common.{◌≡◌, ℕ, List, Some, inl, inr, sym}
use Rattle.fastlanes_format.specs.Errors.{IsColumnError, header_error}
use Rattle.fastlanes_format.specs.declared.flaw.FormatError.{FormatError}
use Rattle.fastlanes_format.proofs.ErrorTables.{if_err_from}
use Rattle.fastlanes_pages.proofs.OpenedColumns.{are_column, same_count}
use Rattle.fastlanes_pages.proofs.opened.Opened.fill.Goals as goal

header_is : (bits : ℕ) (bytes : List ℕ) (e : FormatError) → Some e ≡ header_error bits bytes → IsColumnError bits bytes e
header_is bits bytes e is = inl (sym is)

pub note_starts-self-requires-clause-values : goal.note_starts-self-requires-clause-values
note_starts-self-requires-clause-values g c =
    let head = rw c.T.ensures at c.in_ok-checked.ensures.head in
    let pages = rw c.T-2.ensures at c.in_ok-len.ensures.pages in
    same_count g.E.MachineWord.T c.in_ok-checked.checked c.args.bytes.now head c.in_ok-len.len pages

pub returns-in_err-checked-clause-error : goal.returns-in_err-checked-clause-error
returns-in_err-checked-clause-error g c =
    let t = g.E.MachineWord.T in
    let own = rw c.T.ensures at c.in_err-checked.ensures.error in
    if_err_from c.from_residual.result (IsColumnError t c.args.bytes.now) c.in_err-checked.field-0.0 c.from_residual.ensures
    (header_is t c.args.bytes.now c.in_err-checked.field-0.0 own)

pub returns-in_err-len-clause-error : goal.returns-in_err-len-clause-error
returns-in_err-len-clause-error g c =
    let t = g.E.MachineWord.T in
    let head = rw c.T.ensures at c.in_ok-checked.ensures.head in
    let own = rw c.T-2.ensures at c.in_err-len.ensures.error in
    if_err_from c.from_residual-in_err-len.result (IsColumnError t c.args.bytes.now) c.in_err-len.field-0.0 c.from_residual-in_err-len.ensures
    (inr (c.in_ok-checked.checked, head, own))

pub returns-clause-opened : goal.returns-clause-opened
returns-clause-opened g c =
    let t = g.E.MachineWord.T in
    let head = rw c.T.ensures at c.in_ok-checked.ensures.head in
    let pages = rw c.T-2.ensures at c.in_ok-len.ensures.pages in
    record {
      is = are_column t c.in_ok-checked.checked c.args.bytes.now head c.in_ok-len.len pages;
      count = same_count t c.in_ok-checked.checked c.args.bytes.now head c.in_ok-len.len pages;
      noted = c.note_starts-self.ensures;
    }
