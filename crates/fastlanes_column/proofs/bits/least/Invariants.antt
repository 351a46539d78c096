use Rattle.std.proofs.Common.{map}
use Rattle.fastlanes_column.proofs.WidthBounds.{IsLeastSoFar}
use Rattle.fastlanes_column.proofs.bits.least.Given as goal

abbrev pub invariant-loop-word : goal.invariant-loop-word
invariant-loop-word g l = IsLeastSoFar g.E.MachineWord.T l.word-index (g.E.MachineWord.number l.least) (map g.E.MachineWord.number l.words)
