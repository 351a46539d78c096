use Rattle.std.proofs.Common.{◌≡◌, ◌+◌, ◌*◌, ◌∙◌, ap, arith, sym}
use Rattle.std.proofs.lemmas.List.{drop_all}
use Rattle.fastlanes_checksum.specs.Checksum.{register_after}
use Rattle.fastlanes_checksum.proofs.Registers.{register_after-none, register_after-range}
use Rattle.fastlanes_checksum.proofs.after_sixteens.Goals as goal

pub loop-k-preserved : goal.loop-k-preserved
loop-k-preserved c =
    let at = 16 * c.loop-k.k in
    let next : 16 * (c.loop-k.k + 1) ≡ at + 16 = omega arith in
    let range = register_after-range c.loop-k.register c.args.bytes.now at (at + 16) (λ i below. omega (arith, c.type_inv.bytes i)) (omega arith) in
    rw (next, c.after_sixteen-register.ensures) (sym range ∙ c.loop-k.invariant)

pub returns : goal.returns
returns c =
    let at = 16 * c.loop-k.k in
    sym (register_after-none c.loop-k.register)
    ∙ ap (register_after c.loop-k.register) (sym (drop_all at c.args.bytes.now (omega arith)))
    ∙ c.loop-k.invariant
