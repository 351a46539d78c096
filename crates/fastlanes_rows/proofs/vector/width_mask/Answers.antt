use Rattle.std.proofs.Common.{◌≡◌, ◌-◌, ◌^◌, ◌<◌, ◌∙◌, arith, zero-add}
use Rattle.std.proofs.Math.Nat.{mod-eq_of_lt}
use Rattle.std.proofs.lemmas.Nat.{pow_pos}
use Rattle.fastlanes_rows.proofs.Vectors.{ones_moved}
use Rattle.fastlanes_rows.proofs.vector.width_mask.Goals as goal

pub returns : goal.returns
returns g c =
    let t = g.E.MachineWord.T in
    let some : 0 < 2 ^ t = pow_pos t in
    let ones : g.E.MachineWord.number c.minus-ones.result ≡ 2 ^ t - 1 =
    rw (c.zero-2.ensures, c.one.ensures) at c.minus-ones.ensures.value
    ∙ mod-eq_of_lt (omega (arith, some)) ∙ zero-add _ in
    c.down.ensures.value ∙ rw (ones, c.T.ensures) (ones_moved t c.args.width c.requires)
