use Rattle.std.proofs.Common.{◌≡◌, take}
use Rattle.fastlanes_bytes.proofs.put_each.Given as goal

abbrev pub invariant-loop-i : goal.invariant-loop-i
invariant-loop-i g l = take l.i l.bytes ≡ take l.i l.word
