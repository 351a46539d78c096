use Rattle.fastlanes_masks.proofs.Answering.{place_mask_of_lanes}
use Rattle.fastlanes_masks.proofs.bitpacking_cmp.unpack_cmp.Goals as goal

pub returns : goal.returns
returns g c = record {
  mask = c.unpack_cmp_at.ensures;
  logical = λ moved moves. place_mask_of_lanes _ _ _ _ _ _ g.met.E.FastLanes.layout_law c.unpack_cmp_at.ensures moves;
}
