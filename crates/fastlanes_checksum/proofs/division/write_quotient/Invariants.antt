use Rattle.std.proofs.Common.{◌≡◌, ℕ, ◌<◌, length}
use Rattle.fastlanes_checksum.specs.Multiple.{byte_at, span, sum_at}
use Rattle.fastlanes_checksum.proofs.division.write_quotient.Given as goal

abbrev pub invariant-loop-i : goal.invariant-loop-i
invariant-loop-i l = record {
  long : length l.tape ≡ 15048;
  each : (j : ℕ) → j < l.i → byte_at l.bytes j ≡ sum_at (byte_at l.tape) j;
  others : (j : ℕ) → j < span → byte_at l.tape j ≡ byte_at l.initial.tape j;
}
