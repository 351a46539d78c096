use Rattle.fastlanes_format.proofs.OneError.{one_error}
use Rattle.suite_of_callers.proofs.column_bytes.both_errors.Goals as goal

pub returns-in-Err-decode : goal.returns-in-Err-decode
returns-in-Err-decode g c =
    let decoded = c.in-Err-decode.ensures.error c.in-Err.ensures.other in
    one_error g.E.MachineWord.T c.args.bytes.now c.in-Err.opened c.in-Err-decode.decoded c.in-Err.ensures.error decoded
