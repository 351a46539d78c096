use Rattle.std.proofs.Common.{◌≡◌, ◌∙◌, arith, inl, inr}
use Rattle.std.proofs.lemmas.Bool.{cases_lt}
use Rattle.std.proofs.lemmas.List.{get_or-set_other, get_or-set_same, length-set}
use Rattle.fastlanes_checksum.specs.Multiple.{byte_at}
use Rattle.fastlanes_checksum.proofs.Quotients.{sum_of_none, with_five}
use Rattle.fastlanes_checksum.proofs.division.remainder.Goals as goal

pub loop-i-preserved : goal.loop-i-preserved
loop-i-preserved c = record {
  long = length-set c.loop-i.left c.loop-i.i (with_five (byte_at c.args.tape.now) c.loop-i.i (byte_at c.args.bytes.now c.loop-i.i)) ∙ c.loop-i.invariant.long;
  each = λ j below.
      let i = c.loop-i.i in
      let byte = with_five (byte_at c.args.tape.now) i (byte_at c.args.bytes.now i) in
      elim (cases_lt j i) [
        | inl earlier ↦ get_or-set_other c.loop-i.left i j byte 0 (λ e. omega (arith, earlier, e)) ∙ c.loop-i.invariant.each j earlier
        | inr later ↦
            let here : j ≡ i = omega (arith, below, later) in
            rw here (get_or-set_same c.loop-i.left i byte 0 (omega (arith, c.loop-i.invariant.long, c.loop-i-test.true)) ∙ sum_of_none (byte_at c.args.tape.now) i (byte_at c.args.bytes.now i) (c.requires.ended i c.loop-i-test.true))
      ];
}
