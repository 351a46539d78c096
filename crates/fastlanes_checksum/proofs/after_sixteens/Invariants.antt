use Rattle.std.proofs.Common.{◌≡◌, ◌*◌, drop}
use Rattle.fastlanes_checksum.specs.Checksum.{register_after}
use Rattle.fastlanes_checksum.proofs.after_sixteens.Given as goal

abbrev pub invariant-loop-k : goal.invariant-loop-k
invariant-loop-k l = register_after l.register (drop (16 * l.k) l.bytes) ≡ register_after l.start l.bytes
