use Rattle.std.proofs.Common.{refl}
use Rattle.fastlanes_masks.proofs.BitMoves.{each_of_sixteen, moves_to_places, untransposes}
use Rattle.fastlanes_masks.proofs.bit_transpose.scalar.transpose_bits.Goals as goal

pub returns-clause-moved : goal.returns-clause-moved
returns-clause-moved g c =
    moves_to_places _ _ _ _ _ g.met.E.FastLanes.layout_law refl
    (each_of_sixteen _ c.rows_of_group.ensures c.rows_of_group-2.ensures c.rows_of_group-3.ensures c.rows_of_group-4.ensures c.rows_of_group-5.ensures c.rows_of_group-6.ensures c.rows_of_group-7.ensures c.rows_of_group-8.ensures c.rows_of_group-9.ensures c.rows_of_group-10.ensures c.rows_of_group-11.ensures c.rows_of_group-12.ensures c.rows_of_group-13.ensures c.rows_of_group-14.ensures c.rows_of_group-15.ensures c.rows_of_group-16.ensures)
    (each_of_sixteen _ c.word_of_rows.ensures c.word_of_rows-2.ensures c.word_of_rows-3.ensures c.word_of_rows-4.ensures c.word_of_rows-5.ensures c.word_of_rows-6.ensures c.word_of_rows-7.ensures c.word_of_rows-8.ensures c.word_of_rows-9.ensures c.word_of_rows-10.ensures c.word_of_rows-11.ensures c.word_of_rows-12.ensures c.word_of_rows-13.ensures c.word_of_rows-14.ensures c.word_of_rows-15.ensures c.word_of_rows-16.ensures)

pub returns-clause-undone : goal.returns-clause-undone
returns-clause-undone g c =
    untransposes _ _ _ _ (record { long = c.told-input; small = λ k _. c.fits-input k }) (returns-clause-moved g c)
