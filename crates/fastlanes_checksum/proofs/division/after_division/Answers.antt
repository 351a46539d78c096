use Rattle.std.proofs.Common.{◌≡◌, ◌+◌, ◌-◌, ◌*◌, ◌/◌, ◌≤◌, ◌∙◌, ℕ, ap, arith, drop, length, sym}
use Rattle.std.proofs.lemmas.List.{length-drop, take_rest}
use Rattle.std.proofs.lemmas.List.Folds.{drop_split}
use Rattle.fastlanes_checksum.specs.Checksum.{register_after}
use Rattle.fastlanes_checksum.specs.Multiple.{byte_at, pending, span}
use Rattle.fastlanes_checksum.proofs.Tapes.{zeros_everywhere}
use Rattle.fastlanes_checksum.proofs.division.after_division.Goals as goal

pub put_register-requires : goal.put_register-requires
put_register-requires c i behind = zeros_everywhere 15048 i

pub loop-k-preserved : goal.loop-k-preserved
loop-k-preserved c =
    let bytes = c.args.bytes.now in
    let at = 13376 * c.loop-k.k in
    let next : 13376 * (c.loop-k.k + 1) ≡ at + 13376 = omega arith in
    let long : span ≤ length (drop (at + 13376) bytes) = omega (arith, c.requires, c.loop-k-test.true, length-drop {A = ℕ}) in
    rw next
    (sym (c.divide.ensures (drop (at + 13376) bytes) long)
    ∙ ap (register_after (pending (byte_at c.loop-k.tape))) (sym (drop_split bytes at (at + 13376) (omega arith)))
    ∙ c.loop-k.invariant)

pub returns : goal.returns
returns c =
    let bytes = c.args.bytes.now in
    let end = length bytes - 1672 in
    let at = 13376 * (end / 13376) in
    let done : c.loop-k.k ≡ end / 13376 = omega (arith, c.loop-k.auto.k-end, c.loop-k-test.false) in
    let long : span ≤ length (drop end bytes) = omega (arith, c.requires, length-drop {A = ℕ}) in
    c.after_last.ensures
    ∙ ap (register_after (pending (byte_at c.divide-2.new.tape))) (take_rest bytes end)
    ∙ sym (c.divide-2.ensures (drop end bytes) long)
    ∙ ap (register_after (pending (byte_at c.loop-k.tape))) (sym (drop_split bytes at end (omega arith)))
    ∙ rw done at c.loop-k.invariant
