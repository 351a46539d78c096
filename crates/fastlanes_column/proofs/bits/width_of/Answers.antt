use Rattle.fastlanes_column.proofs.WidthBounds.{leading_exact}
use Rattle.fastlanes_column.proofs.bits.width_of.Goals as goal

pub returns-clause-exact : goal.returns-clause-exact
returns-clause-exact g c = rw (← c.number_of.ensures) (leading_exact 64 c.number_of.result c.number_of.type_inv)

pub returns-clause-fits : goal.returns-clause-fits
returns-clause-fits g c = (leading_exact 64 c.number_of.result c.number_of.type_inv g.E.FastLanes.T).0 (rw c.number_of.ensures c.word_low-low.ensures.below)
