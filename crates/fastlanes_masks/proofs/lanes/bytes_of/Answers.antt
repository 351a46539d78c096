use Rattle.std.proofs.Common.{refl}
use Rattle.std.proofs.lemmas.Simd.{below_from_Fits}
use Rattle.std.specs.Int.{w64}
use Rattle.fastlanes_masks.proofs.ByteLanes.{byte_of_words}
use Rattle.fastlanes_masks.proofs.lanes.bytes_of.Goals as goal

pub returns : goal.returns
returns c = record { long = refl; bytes = λ n. byte_of_words c.args.words n (below_from_Fits w64 c.args.words c.fits-words.1) }
