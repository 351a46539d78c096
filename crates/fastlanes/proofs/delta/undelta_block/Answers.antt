use Rattle.fastlanes.proofs.Deltas.{sums_of_rows, words_of}
use Rattle.fastlanes.proofs.delta.undelta_block.Goals as goal

pub returns : goal.returns
returns g c =
    let sums = sums_of_rows _ _ _ _ _
    (words_of _ _ _ _ _ g.met.E.MachineWord.layout_law c.requires.base c.know_range-2.ensures c.requires.input c.know_range.ensures)
    (record { long = c.fill_slice_with.ensures.long; each = c.fill_slice_with.ensures.each })
    in
    record { sums = sums.0; back = sums.1 }
