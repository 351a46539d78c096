use Rattle.std.proofs.Common.{map, take}
use Rattle.fastlanes.specs.Frame.{framed}
use Rattle.fastlanes_column.specs.LeastWidth.{IsAsWide}
use Rattle.fastlanes_column.proofs.bits.joined_differences.Given as goal

abbrev pub invariant-loop-word : goal.invariant-loop-word
invariant-loop-word g l = IsAsWide (g.E.MachineWord.number l.joined) (framed g.E.MachineWord.T (g.E.MachineWord.number l.reference) (map g.E.MachineWord.number (take l.word-index l.words)))
