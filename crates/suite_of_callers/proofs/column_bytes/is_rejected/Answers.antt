use Rattle.fastlanes_format.proofs.OneError.{none_of_column}
use Rattle.suite_of_callers.proofs.column_bytes.is_rejected.Goals as goal

pub returns-in-Ok : goal.returns-in-Ok
returns-in-Ok g c = absurd (none_of_column g.E.MachineWord.T c.args.bytes.now c.requires.0 c.in-Ok.ensures.column c.requires.1)
