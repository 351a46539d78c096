use Rattle.std.proofs.Common.{◌+◌, ◌∙◌, arith}
use Rattle.std.proofs.lemmas.List.{get_or-set_other, length-set}
use Rattle.fastlanes_checksum.specs.Multiple.{byte_at}
use Rattle.fastlanes_checksum.proofs.Quotients.{with_five}
use Rattle.fastlanes_checksum.proofs.Tapes.{quotient_step}
use Rattle.fastlanes_checksum.proofs.division.write_quotient.Goals as goal

pub loop-i-preserved : goal.loop-i-preserved
loop-i-preserved c = record {
  long = length-set c.loop-i.tape (1672 + c.loop-i.i) (with_five (byte_at c.loop-i.tape) c.loop-i.i (byte_at c.args.bytes.now c.loop-i.i)) ∙ c.loop-i.invariant.long;
  each = quotient_step c.loop-i.tape c.args.bytes.now c.loop-i.i (omega (arith, c.requires, c.loop-i-test.true, c.loop-i.invariant.long)) c.loop-i.invariant.each;
  others = λ j below. get_or-set_other c.loop-i.tape (1672 + c.loop-i.i) j (with_five (byte_at c.loop-i.tape) c.loop-i.i (byte_at c.args.bytes.now c.loop-i.i)) 0 (λ e. omega (arith, below, e)) ∙ c.loop-i.invariant.others j below;
}
