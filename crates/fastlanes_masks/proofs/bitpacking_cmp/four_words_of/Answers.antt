use Rattle.std.proofs.lemmas.Simd.{below_from_Fits}
use Rattle.std.specs.Int.{w8}
use Rattle.fastlanes_masks.proofs.ByteLanes.{words_of_bytes}
use Rattle.fastlanes_masks.proofs.bitpacking_cmp.four_words_of.Goals as goal

pub returns : goal.returns
returns c n = words_of_bytes 4 c.args.bytes n (below_from_Fits w8 c.args.bytes c.fits-bytes.1)
