use Rattle.std.proofs.Common.{◌+◌, ◌∙◌, ap, arith, drop, get_or, sym}
use Rattle.std.proofs.lemmas.List.{drop_all, drop_more}
use Rattle.fastlanes_checksum.specs.Checksum.{register_after}
use Rattle.fastlanes_checksum.proofs.Registers.{register_after-none, register_after-one}
use Rattle.fastlanes_checksum.proofs.after_each.Goals as goal

pub loop-byte-preserved : goal.loop-byte-preserved
loop-byte-preserved c =
    let bytes = c.args.bytes.now in
    let i = c.loop-byte.byte-index in
    rw c.after_one-register.ensures
    (sym (register_after-one c.loop-byte.register (get_or bytes i 0) (drop (i + 1) bytes) (omega (arith, c.type_inv.bytes i)))
    ∙ ap (register_after c.loop-byte.register) (sym (drop_more bytes i 0 c.loop-byte-test.true))
    ∙ c.loop-byte.invariant)

pub returns : goal.returns
returns c =
    sym (register_after-none c.loop-byte.register)
    ∙ ap (register_after c.loop-byte.register) (sym (drop_all c.loop-byte.byte-index c.args.bytes.now c.loop-byte-test.false))
    ∙ c.loop-byte.invariant
