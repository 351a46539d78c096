use Rattle.std.proofs.Common.{Bool, ◌∙◌, ap, if◌then◌else◌, sym}
use Rattle.std.proofs.lemmas.Nat.Bits.{bit_at-zero, bit_at_ones}
use Rattle.fastlanes_pages.proofs.MaskBits.{filled}
use Rattle.fastlanes_pages.proofs.masks.fill_mask.Goals as goal

pub returns-then-answer : goal.returns-then-answer
returns-then-answer c = λ test values count all.
    filled test values c.args.answer 18446744073709551615 count all
    (λ k below. bit_at_ones 64 k below ∙ ap (λ (b : Bool). if b then 1 else 0) (sym c.if-answer.true))

pub returns-else-answer : goal.returns-else-answer
returns-else-answer c = λ test values count all.
    filled test values c.args.answer 0 count all
    (λ k below. bit_at-zero k ∙ ap (λ (b : Bool). if b then 1 else 0) (sym c.if-answer.false))
