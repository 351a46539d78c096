use Rattle.std.proofs.Common.{ℤ, Bool, if◌then◌else◌, ap, ◌∙◌}
use Rattle.fastlanes_blocks.specs.Comparisons.{less_than}
use Rattle.fastlanes_blocks.proofs.Masks.{mask_says}
use Rattle.fastlanes_blocks.proofs.filters.less.Goals as goal

pub returns : goal.returns
returns g c = mask_says _ c.requires.width
    (λ x bit below answer.
    let here = g.met.V.Ordered.integer_law answer.0 ∙ ap g.V.Ordered.integer answer.1 in
    answer.4 ∙ ap (λ (b : Bool). if b then 1 else 0) (answer.3 ∙ ap (λ (z : ℤ). less_than z (g.V.Ordered.value c.args.value)) here))
    c.unchecked_unpack_cmp.ensures.mask
