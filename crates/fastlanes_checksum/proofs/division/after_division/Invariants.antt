use Rattle.std.proofs.Common.{◌≡◌, ◌*◌, drop}
use Rattle.fastlanes_checksum.specs.Checksum.{register_after}
use Rattle.fastlanes_checksum.specs.Multiple.{byte_at, pending}
use Rattle.fastlanes_checksum.proofs.division.after_division.Given as goal

abbrev pub invariant-loop-k : goal.invariant-loop-k
invariant-loop-k l = register_after (pending (byte_at l.tape)) (drop (13376 * l.k) l.bytes) ≡ register_after l.start l.bytes
