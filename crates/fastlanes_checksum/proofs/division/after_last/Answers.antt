use Rattle.std.proofs.Common.{◌∙◌, arith, ap}
use Rattle.fastlanes_checksum.specs.Checksum.{register_after}
use Rattle.fastlanes_checksum.specs.Multiple.{byte_at}
use Rattle.fastlanes_checksum.proofs.Quotients.{pending-same, remainder_of_last}
use Rattle.fastlanes_checksum.proofs.division.after_last.Goals as goal

pub returns : goal.returns
returns c =
    let before = byte_at c.args.tape.now in
    let cleared = byte_at c.clear_behind.new.tape in
    c.after_all.ensures
    ∙ remainder_of_last cleared c.args.bytes.now c.remainder.result c.are_bytes.ensures (λ i below. omega (arith, c.type_inv.bytes i)) c.requires c.remainder.ensures.long c.clear_behind.ensures.behind c.remainder.ensures.each
    ∙ ap (λ p. register_after p c.args.bytes.now) (pending-same cleared before c.clear_behind.ensures.others)
