use Rattle.std.proofs.Common.{◌∙◌, ap, sym}
use Rattle.std.specs.Int.Bits.{bit_xor}
use Rattle.fastlanes_checksum.specs.Checksum.{checksum}
use Rattle.fastlanes_checksum.proofs.Bursts.{burst_is_found}
use Rattle.fastlanes_checksum.proofs.crc32c.Goals.{then-bytes-lt-LEAST_DIVIDED, else-bytes-lt-LEAST_DIVIDED}
use Rattle.fastlanes_checksum.proofs.crc32c.Goals as goal

pub returns-clause-value : goal.returns-clause-value
unfolding checksum
returns-clause-value c = ap (λ n. bit_xor n 4294967295) (elim c.if-bytes-lt-LEAST_DIVIDED.branch [ then-bytes-lt-LEAST_DIVIDED w ↦ w.register-is ∙ w.after_all-register.ensures | else-bytes-lt-LEAST_DIVIDED w ↦ w.register-is ∙ w.after_division-register.ensures ])

pub returns-clause-burst : goal.returns-clause-burst
returns-clause-burst c other d same = burst_is_found c.args.bytes.now other d (sym (returns-clause-value c) ∙ same)
