use Rattle.std.proofs.Common.{◌≡◌, ℕ, ◌+◌, ◌<◌}
use Rattle.fastlanes_checksum.specs.Multiple.{byte_at, span}
use Rattle.fastlanes_checksum.proofs.division.clear_behind.Given as goal

abbrev pub invariant-loop-i : goal.invariant-loop-i
invariant-loop-i l = record {
  behind : (j : ℕ) → j < l.i → byte_at l.tape (span + j) ≡ 0;
  others : (j : ℕ) → j < span → byte_at l.tape j ≡ byte_at l.initial.tape j;
}
