use Rattle.std.proofs.Common.{lit<, lit≤, refl}
use Rattle.std.proofs.lemmas.Simd.{below_from_Fits}
use Rattle.std.specs.Int.{w32}
use Rattle.fastlanes_masks.proofs.ByteLanes.{byte_of_lanes}
use Rattle.fastlanes_masks.proofs.bitpacking_cmp.bytes_of_32.Goals as goal

pub returns : goal.returns
returns c = record { long = refl; bytes = λ n. byte_of_lanes 32 64 c.args.words n refl (lit< tt) (lit≤ tt) (below_from_Fits w32 c.args.words c.fits-words.1) }
