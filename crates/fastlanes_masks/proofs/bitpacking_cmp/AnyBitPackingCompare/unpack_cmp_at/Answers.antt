use Rattle.std.proofs.Common.{map}
use Rattle.fastlanes_masks.proofs.Answering.{rows_comparable}
use Rattle.fastlanes_masks.proofs.bitpacking_cmp.AnyBitPackingCompare.unpack_cmp_at.Goals as goal

pub compare_block-requires-clause-callable : goal.compare_block-requires-clause-callable
compare_block-requires-clause-callable g c = rows_comparable g.E.FastLanes.T g.E.FastLanes.LANES g.N.Width.W _ (map g.E.FastLanes.number c.args.input.now) g.met.E.FastLanes.layout_law c.requires.callable
