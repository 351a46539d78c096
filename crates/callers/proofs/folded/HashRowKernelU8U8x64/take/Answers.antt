use Rattle.std.proofs.Common.{arith, refl, ◌∙◌}
use Rattle.std.proofs.lemmas.List.Sums.{fold-append}
use Rattle.fastlanes_blocks.proofs.Orders.{row_taken}
use Rattle.callers.proofs.folded.HashRowKernelU8U8x64.take.Goals as goal

pub returns : goal.returns
returns c = record {
  took = λ before is room below.
      c.hash_row-self.ensures ∙ rw (row_taken c.args._from 64 c.args.digits before (omega arith), fold-append, ← is) refl;
}
