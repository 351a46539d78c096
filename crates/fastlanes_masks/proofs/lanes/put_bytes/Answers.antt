use Rattle.std.proofs.Common.{ap, sym, ◌∙◌}
use Rattle.fastlanes_masks.specs.Bits.{block_byte}
use Rattle.fastlanes_masks.proofs.ByteLanes.{bytes_of_halves}
use Rattle.fastlanes_masks.proofs.lanes.put_bytes.Goals as goal

pub returns : goal.returns
returns c = record {
  block = c.put_words.ensures.block;
  bytes = λ n within.
      ap (λ words. block_byte words n) c.put_words.ensures.words
      ∙ sym (bytes_of_halves c.words_of.result c.words_of-2.result c.args.low c.args.high n c.words_of.ensures.long c.fits-low.0
      (λ k h. sym (c.words_of.ensures.bytes k h)) (λ k h. sym (c.words_of-2.ensures.bytes k h)) within);
}
