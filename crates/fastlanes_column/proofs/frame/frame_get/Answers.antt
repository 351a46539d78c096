use Rattle.std.proofs.Common.{ℕ, ap, sym, ◌∙◌}
use Rattle.fastlanes.specs.Frame.{word_sum}
use Rattle.fastlanes_column.proofs.Frames.{unframed_digit}
use Rattle.fastlanes_column.proofs.frame.frame_get.Goals as goal

pub returns : goal.returns
returns g c =
    c.word_add.ensures.value
    ∙ ap (λ (x : ℕ). word_sum g.E.FastLanes.T x (g.E.FastLanes.number c.args.head.now.reference)) c.unchecked_unpack_single.ensures
    ∙ sym (unframed_digit _ _ _ _ _ _ c.requires.index)
