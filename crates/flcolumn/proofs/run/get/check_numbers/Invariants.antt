use Rattle.std.proofs.Common.{ℕ, ◌<◌, get_or}
use Rattle.flcolumn.proofs.run.get.check_numbers.Given as goal

-- the numbers so far are below
abbrev pub invariant-loop-number : goal.invariant-loop-number
invariant-loop-number l = (k : ℕ) → k < l.number-index → get_or l.numbers k 0 < l.all
