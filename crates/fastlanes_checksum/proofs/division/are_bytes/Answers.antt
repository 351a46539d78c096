use Rattle.std.proofs.Common.{arith}
use Rattle.fastlanes_checksum.proofs.division.are_bytes.Goals as goal

pub returns : goal.returns
returns c i = omega (arith, c.type_inv.bytes i)
