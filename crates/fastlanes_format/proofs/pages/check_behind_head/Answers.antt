use Rattle.std.proofs.lemmas.List.{take_rest}
use Rattle.fastlanes_format.proofs.ErrorTables.{error_moved}
use Rattle.fastlanes_format.proofs.pages.check_behind_head.Goals as goal

pub returns-in-Err-clause-error : goal.returns-in-Err-clause-error
returns-in-Err-clause-error c = record {
  here = c.in-Err.e;
  behind = rw (take_rest c.args.bytes.now 8) at c.in-Err.ensures.error;
  at = error_moved 8 c.behind.result c.in-Err.e c.behind.ensures.flaw c.behind.ensures.at;
}

pub returns-in-Err-clause-other : goal.returns-in-Err-clause-other
returns-in-Err-clause-other c = rw (take_rest c.args.bytes.now 8) at c.in-Err.ensures.other
