use Rattle.std.proofs.Common.{◌+◌, ◌++◌, ◌∙◌, arith, sym, ap, length}
use Rattle.fastlanes_checksum.specs.Checksum.{register_after}
use Rattle.fastlanes_checksum.specs.Multiple.{byte_at}
use Rattle.fastlanes_checksum.proofs.Quotients.{divided_bytes, pending-same}
use Rattle.fastlanes_checksum.proofs.division.divide.Goals as goal

pub returns : goal.returns
returns c rest long =
    let before = byte_at c.args.tape.now in
    let written = byte_at c.write_quotient.new.tape in
    let after = byte_at c.keep_last.new.tape in
    let n = length c.args.bytes.now in
    ap (λ p. register_after p (c.args.bytes.now ++ rest)) (pending-same before written (λ i below. sym (c.write_quotient.ensures.others i below)))
    ∙ divided_bytes written c.args.bytes.now rest c.are_bytes.ensures (λ i below. omega (arith, c.type_inv.bytes i)) c.write_quotient.ensures.each long
    ∙ ap (λ p. register_after p rest) (pending-same (λ i. written (n + i)) after (λ i below. sym (c.keep_last.ensures i below)))
