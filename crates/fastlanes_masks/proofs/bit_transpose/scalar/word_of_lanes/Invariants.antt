use Rattle.std.specs.Prelude.{◌+◌, ◌*◌}
use Rattle.fastlanes_masks.specs.Bits.{GathersBytes}
use Rattle.fastlanes_masks.specs.Bytes.{ungather_place}
use Rattle.fastlanes_masks.proofs.bit_transpose.scalar.word_of_lanes.Given as goal

abbrev pub invariant-loop-j : goal.invariant-loop-j
invariant-loop-j g l = GathersBytes l.groups (λ j. ungather_place g.E.MachineWord.T (8 * l.w + j)) l.j l.word
