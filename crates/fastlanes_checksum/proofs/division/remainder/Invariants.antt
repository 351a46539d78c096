use Rattle.std.proofs.Common.{◌≡◌, ℕ, ◌<◌, bit_xor, length}
use Rattle.fastlanes_checksum.specs.Multiple.{byte_at, sum_at}
use Rattle.fastlanes_checksum.proofs.division.remainder.Given as goal

abbrev pub invariant-loop-i : goal.invariant-loop-i
invariant-loop-i l = record {
  long : length l.left ≡ 1672;
  each : (j : ℕ) → j < l.i → byte_at l.left j ≡ bit_xor (byte_at l.bytes j) (sum_at (byte_at l.tape) j);
}
