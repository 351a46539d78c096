use Rattle.std.proofs.Common.{sym, ap}
use Rattle.flblock.specs.Refusal.{refusal_number}
use Rattle.flblock.proofs.error.BlockError.number.Goals as goal

pub returns-in-ShortInput : goal.returns-in-ShortInput
returns-in-ShortInput c = ap refusal_number (sym c.in-ShortInput.is)
