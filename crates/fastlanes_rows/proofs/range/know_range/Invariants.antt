use Rattle.std.proofs.Common.{ℕ, ◌^◌, ◌<◌, map, get_or}
use Rattle.fastlanes_rows.proofs.range.know_range.Given as goal

abbrev pub invariant-loop-word : goal.invariant-loop-word
invariant-loop-word g l = (k : ℕ) → k < l.word-index → get_or (map g.E.MachineWord.number l.words) k 0 < 2 ^ g.E.MachineWord.T
