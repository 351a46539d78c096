use Rattle.std.proofs.Common.{◌≡◌, drop, take}
use Rattle.fastlanes_format.proofs.head.put_column_head.Given as goal

abbrev pub invariant-loop-i : goal.invariant-loop-i
invariant-loop-i l = record {
  bytes : take l.i l.bytes ≡ take l.i l.head;
  behind : drop 8 l.bytes ≡ drop 8 l.initial.bytes;
}
