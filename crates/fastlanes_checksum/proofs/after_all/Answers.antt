use Rattle.std.proofs.Common.{◌/◌, ◌*◌, ◌∙◌, ap, arith, drop, length, sym}
use Rattle.std.proofs.lemmas.List.{take_rest}
use Rattle.fastlanes_checksum.specs.Checksum.{register_after}
use Rattle.fastlanes_checksum.proofs.Registers.{register_after-split}
use Rattle.fastlanes_checksum.proofs.after_all.Goals as goal

pub returns : goal.returns
returns c =
    let bytes = c.args.bytes.now in
    let sixteens = length bytes / 16 * 16 in
    c.after_each.ensures
    ∙ ap (register_after c.after_sixteens-register.result) (take_rest bytes sixteens)
    ∙ ap (λ n. register_after n (drop sixteens bytes)) c.after_sixteens-register.ensures
    ∙ sym (register_after-split c.args.start sixteens bytes (λ i below. omega (arith, c.type_inv.bytes i)))
