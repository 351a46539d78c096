use Rattle.std.proofs.Common.{◌≡◌, ℕ, ◌+◌, ◌<◌, ◌≤◌}
use Rattle.fastlanes_checksum.specs.Multiple.{byte_at}
use Rattle.fastlanes_checksum.proofs.division.keep_last.Given as goal

abbrev pub invariant-loop-i : goal.invariant-loop-i
invariant-loop-i l = record {
  kept : (j : ℕ) → j < l.i → byte_at l.tape j ≡ byte_at l.initial.tape (l.n + j);
  others : (j : ℕ) → l.i ≤ j → byte_at l.tape j ≡ byte_at l.initial.tape j;
}
