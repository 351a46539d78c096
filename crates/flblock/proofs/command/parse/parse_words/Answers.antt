use Rattle.std.proofs.Common.{arith}
use Rattle.flblock.proofs.command.parse.parse_words.Goals as goal

pub invariant_of-result : goal.invariant_of-result
invariant_of-result c = record { width_fits = omega arith }
