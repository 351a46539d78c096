use Rattle.std.proofs.Common.{ℕ, ◌/◌, ◌%◌, ap, arith, ◌∙◌}
use Rattle.std.proofs.lemmas.Nat.Bits.{bit_at_not}
use Rattle.std.specs.Int.{bit_at, w64}
use Rattle.fastlanes_blocks.proofs.filters.complement.Goals as goal

pub returns : goal.returns
returns c = record {
  each = λ b below.
      let turned = c.loop-k.invariant.0 (b / 64) (omega arith) in
      ap (λ (x : ℕ). bit_at x (b % 64)) turned.1 ∙ bit_at_not w64 _ (b % 64) turned.0 (omega arith);
}
