use Rattle.std.proofs.Common.{map}
use Rattle.fastlanes_masks.proofs.Answering.{place_mask_of_lanes, rows_comparable}
use Rattle.fastlanes_masks.proofs.bitpacking_cmp.AnyBitPackingCompare.unchecked_unpack_cmp.Goals as goal

pub at_width-requires-clause-asks : goal.at_width-requires-clause-asks
at_width-requires-clause-asks g c = (
  c.requires.width,
  c.requires.input,
  c.told-output,
  rows_comparable g.E.FastLanes.T g.E.FastLanes.LANES c.args.width _ (map g.E.FastLanes.number c.args.input.now) g.met.E.FastLanes.layout_law c.requires.callable,
)

pub returns-then-is_empty-clause-mask : goal.returns-then-is_empty-clause-mask
returns-then-is_empty-clause-mask g c = c.compare_zeros.ensures

pub returns-then-is_empty-clause-logical : goal.returns-then-is_empty-clause-logical
returns-then-is_empty-clause-logical g c = λ moved moves. place_mask_of_lanes _ _ _ _ _ _ g.met.E.FastLanes.layout_law c.compare_zeros.ensures moves

pub returns-else-is_empty-clause-mask : goal.returns-else-is_empty-clause-mask
returns-else-is_empty-clause-mask g c = c.at_width.ensures

pub returns-else-is_empty-clause-logical : goal.returns-else-is_empty-clause-logical
returns-else-is_empty-clause-logical g c = λ moved moves. place_mask_of_lanes _ _ _ _ _ _ g.met.E.FastLanes.layout_law c.at_width.ensures moves
