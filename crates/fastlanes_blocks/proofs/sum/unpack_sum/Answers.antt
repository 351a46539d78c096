use Rattle.std.proofs.Common.{◌∙◌}
use Rattle.std.proofs.Math.Nat.{mod-eq_of_lt}
use Rattle.fastlanes_blocks.proofs.Summed.{sum_fits}
use Rattle.fastlanes_blocks.proofs.sum.unpack_sum.Goals as goal

pub returns-clause-exact : goal.returns-clause-exact
returns-clause-exact g c fewer = c.sum_modulo.ensures ∙ mod-eq_of_lt (sum_fits _ _ _ _ g.met.E.FastLanes.bits_law c.requires.width fewer)
