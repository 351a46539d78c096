use Rattle.std.proofs.Common.{arith}
use Rattle.std.proofs.lemmas.Simd.{below_from_Fits}
use Rattle.std.specs.Int.{w8}
use Rattle.fastlanes_masks.proofs.ByteLanes.{byte_itself}
use Rattle.fastlanes_masks.proofs.bitpacking_cmp.bytes_of_8.Goals as goal

pub returns : goal.returns
returns c n within = byte_itself c.args.words n (below_from_Fits w8 c.args.words c.fits-words.1) (omega (arith, c.fits-words.0))
