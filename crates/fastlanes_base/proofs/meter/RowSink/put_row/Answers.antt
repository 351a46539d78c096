use Rattle.std.proofs.Common.{◌+◌, List, ap}
use Rattle.fastlanes_base.specs.Counted.{Written}
use Rattle.fastlanes_base.proofs.meter.RowSink.put_row.Goals as goal

pub returns : goal.returns
returns g c =
    let s = c.args.self.now in
    let with_words : List g.row.E.Denot → Written g.row.E.Denot = λ words. record { target = s.packed.ghost_name; words = words; width = s.width; lane = s.lane; count = s.written + 1 } in
    ap with_words (rw c.place_of_word-to.ensures.value at c.write_row.ensures)
