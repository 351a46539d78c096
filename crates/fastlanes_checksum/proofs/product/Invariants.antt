use Rattle.std.proofs.Common.{◌≡◌, ◌+◌, ◌*◌, ◌-◌, ◌^◌, ◌<◌}
use Rattle.std.specs.Int.Bits.{bit_xor}
use Rattle.fastlanes_checksum.specs.Checksum.{times_x_to}
use Rattle.fastlanes_checksum.proofs.product.Given as goal

abbrev pub invariant-loop-k : goal.invariant-loop-k
invariant-loop-k l = record {
  whole : bit_xor l.product (times_x_to (8 * (8 - l.k) + 8 * l.more) l.rest) ≡ times_x_to (64 + 8 * l.more) l.fn.p;
  below : l.rest < 2 ^ (8 * (8 - l.k));
}
