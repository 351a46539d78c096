use Rattle.fastlanes_masks.specs.Bits.{GathersBytes, byte_steps}
use Rattle.fastlanes_masks.proofs.bit_transpose.scalar.gathered.Given as goal

abbrev pub invariant-loop-j : goal.invariant-loop-j
invariant-loop-j l = GathersBytes l.words (byte_steps l.start l.stride) l.j l.word
