use Rattle.std.proofs.Common.{◌==◌, ℕ, Bool, if◌then◌else◌, ap, ◌∙◌}
use Rattle.fastlanes_blocks.proofs.Masks.{mask_says, same_numbers}
use Rattle.fastlanes_blocks.proofs.filters.equal.Goals as goal

pub returns : goal.returns
returns g c = mask_says _ c.requires.width
    (λ x bit below answer.
    let word = c.word.result in
    let plain = ap (λ (digit : g.row.E.Denot). g.E.PartialEq.eq digit word) (g.met.E.Element.unpacked_law answer.0) in
    let same = same_numbers (g.E.PartialEq.eq answer.0 word) (g.E.Number.value answer.0) (g.E.Number.value word) (g.E.FastLanes.number answer.0) (g.E.FastLanes.number word)
    (g.met.E.Number.eq_law answer.0 word g.met.E.Integral.exact_law) (g.met.E.FastLanes.number_law answer.0) (g.met.E.FastLanes.number_law word) in
    let here = ap (λ (n : ℕ). n == g.E.FastLanes.number word) answer.1 ∙ c.word.ensures x below in
    answer.4 ∙ ap (λ (b : Bool). if b then 1 else 0) (answer.3 ∙ plain ∙ same ∙ here))
    c.unchecked_unpack_cmp.ensures.mask
