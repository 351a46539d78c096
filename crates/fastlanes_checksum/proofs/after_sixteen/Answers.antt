use Rattle.std.proofs.Common.{◌≡◌, ◌∙◌, ap, arith, drop, sym, take}
use Rattle.std.proofs.lemmas.List.{take_rest}
use Rattle.fastlanes_checksum.specs.Checksum.{number_of_bytes}
use Rattle.fastlanes_checksum.proofs.Registers.{register_after-sixteen}
use Rattle.fastlanes_checksum.proofs.after_sixteen.Goals as goal

pub returns : goal.returns
returns c =
    let bytes = c.args.bytes.now in
    let low : c.number_of_eight.result ≡ number_of_bytes (take 8 bytes) = c.number_of_eight.ensures in
    let high : c.number_of_eight-2.result ≡ number_of_bytes (drop 8 bytes) = c.number_of_eight-2.ensures ∙ ap number_of_bytes (take_rest bytes 8) in
    rw (c.product.ensures, c.product-2.ensures, low, high)
    (sym (register_after-sixteen c.args.register bytes (λ i below. omega (arith, c.type_inv.bytes i)) c.requires))
