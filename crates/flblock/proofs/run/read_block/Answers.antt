use Rattle.std.proofs.Common.{sym, ◌∙◌, add-zero}
use Rattle.flblock.proofs.run.read_block.Goals as goal

pub returns-in-Ok-clause-never_usage : goal.returns-in-Ok-clause-never_usage
returns-in-Ok-clause-never_usage g c = λ e. absurd cc

pub returns-in-Ok-2-clause-never_usage : goal.returns-in-Ok-2-clause-never_usage
returns-in-Ok-2-clause-never_usage g c = λ e. absurd cc

pub returns-in-Ok-2-clause-failed_reads : goal.returns-in-Ok-2-clause-failed_reads
returns-in-Ok-2-clause-failed_reads g c = c.in-Ok-2.ensures.failures ∙ sym (add-zero (g.I.ByteIn.failures c.args.input.now))

pub returns-in-Ok-2-clause-read_failed : goal.returns-in-Ok-2-clause-read_failed
returns-in-Ok-2-clause-read_failed g c = λ tells e. absurd cc

pub returns-in-Err-clause-never_usage : goal.returns-in-Err-clause-never_usage
returns-in-Err-clause-never_usage g c = λ e. absurd cc

pub returns-in-Err-clause-failed_reads : goal.returns-in-Err-clause-failed_reads
returns-in-Err-clause-failed_reads g c = c.in-Err.ensures.failures
