use Rattle.fastlanes_blocks.proofs.Masks.{filtered}
use Rattle.fastlanes_blocks.proofs.filters.filter.Goals as goal

pub returns : goal.returns
returns g c = filtered g.met.E.FastLanes.layout_law c.compare.ensures c.transpose_bits.ensures.moved
