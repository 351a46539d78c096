use Rattle.std.proofs.Common.{replicate}
use Rattle.std.proofs.lemmas.List.{get_or-replicate}
use Rattle.fastlanes_masks.proofs.Answering.{bits_of_ones, equal_bits}
use Rattle.fastlanes_masks.proofs.bitpacking_cmp.answer_all.Goals as goal

pub returns-then-answer : goal.returns-then-answer
returns-then-answer c = rw c.if-answer.true (equal_bits (replicate 16 18446744073709551615) _ 1 bits_of_ones (λ k below. get_or-replicate 16 k 18446744073709551615 0 below))
