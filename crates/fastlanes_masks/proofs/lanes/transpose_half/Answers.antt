use Rattle.fastlanes_masks.proofs.ByteMoves.{transposes_words}
use Rattle.fastlanes_masks.proofs.lanes.transpose_half.Goals as goal

pub returns : goal.returns
returns c = record {
  long = c.bytes_of.ensures.long;
  transposed = transposes_words _ _ _ _ 8 c.words_of.ensures.bytes c.transpose_words.ensures c.bytes_of.ensures.bytes;
}
