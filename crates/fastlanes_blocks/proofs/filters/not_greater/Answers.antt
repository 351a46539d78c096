use Rattle.std.proofs.Common.{ap}
use Rattle.std.proofs.lemmas.List.{get_or-replicate}
use Rattle.std.specs.Option.{is_some}
use Rattle.fastlanes_blocks.specs.Comparisons.{at_most}
use Rattle.fastlanes_blocks.proofs.Masks.{ones_tell}
use Rattle.fastlanes_blocks.proofs.filters.not_greater.Goals as goal

pub returns-in-None : goal.returns-in-None
returns-in-None g c = ones_tell _ g.V.Ordered.integer (g.V.Ordered.value c.args.value) at_most g.met.E.FastLanes.layout_law c.requires.width
    (c.next.ensures.none (ap is_some c.in-None.is)) (λ k below. get_or-replicate 16 k 18446744073709551615 0 below)
