use Rattle.std.proofs.Common.{bit_or, map, ap, subst, ◌∙◌}
use Rattle.std.proofs.lemmas.List.{take_all}
use Rattle.fastlanes.specs.Frame.{framed}
use Rattle.fastlanes_column.specs.LeastWidth.{IsAsWide}
use Rattle.fastlanes_column.proofs.WidthBounds.{as_wide_none, as_wide_word}
use Rattle.fastlanes_column.proofs.bits.joined_differences.Goals as goal

pub loop-word-init : goal.loop-word-init
unfolding framed
loop-word-init g c = as_wide_none _ c.zero-joined.ensures

pub loop-word-preserved : goal.loop-word-preserved
loop-word-preserved g c =
    as_wide_word _ _ _ _ _ _ (g.E.MachineWord.number c.loop-word.joined) _ c.loop-word-test.true c.word-item.is
    (c.or-joined.ensures.value ∙ ap (bit_or (g.E.MachineWord.number c.loop-word.joined)) c.minus.ensures.value) c.loop-word.invariant

pub returns : goal.returns
returns g c =
    let number = g.E.MachineWord.number in
    subst (λ words. IsAsWide (number c.loop-word.joined) (framed g.E.MachineWord.T (number c.args.reference) (map number words)))
    (take_all c.loop-word.word-index c.args.words.now c.loop-word-test.false) c.loop-word.invariant
