use Rattle.std.proofs.Common.{sym, subst}
use Rattle.std.proofs.lemmas.Simd.{below_from_Fits}
use Rattle.std.specs.Int.{w64}
use Rattle.fastlanes_masks.specs.Bits.{IsBitBlock}
use Rattle.fastlanes_masks.proofs.ByteLanes.{block_of_halves, both_halves}
use Rattle.fastlanes_masks.proofs.lanes.put_words.Goals as goal

pub returns : goal.returns
returns c =
    let whole = both_halves c.args.first c.args.second c.fits-first.0 c.fits-second.0 in
    record {
      block = subst IsBitBlock (sym whole)
          (block_of_halves c.args.first c.args.second c.fits-first.0 c.fits-second.0 (below_from_Fits w64 _ c.fits-first.1) (below_from_Fits w64 _ c.fits-second.1));
      words = whole;
    }
