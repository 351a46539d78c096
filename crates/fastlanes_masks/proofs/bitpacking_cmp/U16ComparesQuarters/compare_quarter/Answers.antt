use Rattle.std.proofs.Common.{inl, inr, refl}
use Rattle.fastlanes_masks.proofs.Answering.{answers_of_bytes, answers_of_numbers}
use Rattle.fastlanes_masks.proofs.bitpacking_cmp.U16ComparesQuarters.compare_quarter.Goals as goal

pub returns : goal.returns
returns g c =
    answers_of_bytes 16 16 32 _ _ c.compare_lanes.new.words c.bytes_of_16.result _ (inr (inl refl)) refl c.bytes_of_16.ensures c.four_words_of.ensures
    (answers_of_numbers 16 16 _ _ c.compare_lanes.new.words c.compare_lanes.ensures)
