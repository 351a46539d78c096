use Rattle.std.proofs.Common.{lit<, lit≤, refl}
use Rattle.std.proofs.lemmas.Simd.{below_from_Fits}
use Rattle.std.specs.Int.{w16}
use Rattle.fastlanes_masks.proofs.ByteLanes.{byte_of_lanes}
use Rattle.fastlanes_masks.proofs.bitpacking_cmp.bytes_of_16.Goals as goal

pub returns : goal.returns
returns c n = byte_of_lanes 16 32 c.args.words n refl (lit< tt) (lit≤ tt) (below_from_Fits w16 c.args.words c.fits-words.1)
