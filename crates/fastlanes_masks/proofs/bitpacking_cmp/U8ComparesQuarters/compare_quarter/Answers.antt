use Rattle.std.proofs.Common.{inl, refl}
use Rattle.fastlanes_masks.proofs.Answering.{answers_of_bytes, answers_of_numbers}
use Rattle.fastlanes_masks.proofs.bitpacking_cmp.U8ComparesQuarters.compare_quarter.Goals as goal

pub returns : goal.returns
returns g c =
    answers_of_bytes 8 32 32 _ _ c.compare_lanes.new.words c.bytes_of_8.result _ (inl refl) refl c.bytes_of_8.ensures c.four_words_of.ensures
    (answers_of_numbers 8 32 _ _ c.compare_lanes.new.words c.compare_lanes.ensures)
