use Rattle.fastlanes.proofs.Callers.{same_transposes}
use Rattle.callers.proofs.round_trips.mask_from_places.Goals as goal

pub returns : goal.returns
returns g c = same_transposes _ _ _ _ _ g.met.E.FastLanes.layout_law c.untranspose_bits.ensures.moved c.transpose_bits.ensures.undone
