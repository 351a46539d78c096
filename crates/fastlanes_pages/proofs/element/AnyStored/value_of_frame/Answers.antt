use Rattle.std.proofs.Common.{◌+◌, ◌%◌, ◌^◌, ◌∙◌, ap, sym}
use Rattle.fastlanes_pages.proofs.FrameWords.{value_is}
use Rattle.fastlanes_pages.proofs.element.AnyStored.value_of_frame.Goals as goal

pub returns : goal.returns
returns g c =
    let t = g.E.FastLanes.T in
    let reference = g.E.FastLanes.number c.args.reference in
    c.word_add.ensures.value ∙ ap (λ d. (d + reference) % 2 ^ t) c.digit_in_bytes.ensures
    ∙ sym (value_is t g.E.FastLanes.LANES c.args.width reference c.args.bytes.now c.args.index c.requires.index)
