use Rattle.std.proofs.Common.{rules}
use Rattle.flblock.proofs.run.deliver.Goals as goal

pub returns-clause-failed_writes : goal.returns-clause-failed_writes
returns-clause-failed_writes g c = search rules
