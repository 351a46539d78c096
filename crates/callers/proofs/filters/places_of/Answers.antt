use Rattle.std.proofs.Common.{ℕ, List, slice_index, ap, subst, sym, ◌∙◌}
use Rattle.fastlanes.proofs.Callers.{element_of_digits, small_numbers_stay}
use Rattle.fastlanes.specs.Bits.{block_bit}
use Rattle.fastlanes_blocks.specs.Comparisons.{Tells, holds}
use Rattle.callers.proofs.filters.places_of.Goals as goal

pub returns : goal.returns
returns g c = λ i in_block.
    let is_value = sym (element_of_digits g.E.FastLanes.T g.E.FastLanes.LANES g.row.W _ i in_block)
    ∙ ap (λ (v : List ℕ). slice_index v i) (c.pack.ensures.digits ∙ small_numbers_stay g.row.W _ c.requires.below)
    in
    subst (λ (x : ℕ). Tells g.V.Ordered.integer (holds c.args.comparison) (g.V.Ordered.value c.args.value) x (block_bit c.filter.new.mask i)) is_value
    (c.filter.ensures.each i in_block)
