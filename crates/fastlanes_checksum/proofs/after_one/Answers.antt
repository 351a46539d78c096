use Rattle.std.specs.Int.Bits.{bit_xor}
use Rattle.fastlanes_checksum.specs.Checksum.{times_x_to}
use Rattle.fastlanes_checksum.proofs.Polynomials.{times_x_to-byte}
use Rattle.fastlanes_checksum.proofs.after_one.Goals as goal

pub returns : goal.returns
unfolding times_x_to
returns c = cc (times_x_to-byte 0 (bit_xor c.args.register c.args.byte))
