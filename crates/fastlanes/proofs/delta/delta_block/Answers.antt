use Rattle.fastlanes.proofs.Deltas.{deltas_of_rows, undeltas-deltas, undeltas-low_deltas, words_of}
use Rattle.fastlanes.proofs.delta.delta_block.Goals as goal

pub returns : goal.returns
returns g c =
    let words = words_of _ _ _ _ _ g.met.E.MachineWord.layout_law c.requires.base c.know_range-2.ensures c.requires.input c.know_range.ensures in
    let is = deltas_of_rows _ _ _ _ _ words.layout (record { long = c.fill_slice_with.ensures.long; each = c.fill_slice_with.ensures.each }) in
    record {
      differences = is;
      back = rw is (undeltas-deltas _ _ _ _ words);
      comes_back = λ w le. rw is (undeltas-low_deltas _ _ w _ _ words le);
    }
