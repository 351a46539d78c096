use Rattle.std.proofs.Common.{◌≡◌, ◌+◌, ◌*◌, ◌<◌, ap, ◌∙◌, arith, map}
use Rattle.std.specs.List.{slice_index}
use Rattle.fastlanes_rows.proofs.RowsStored.{taken_row}
use Rattle.fastlanes_rows.proofs.sixteen_lanes.RowWordsWordCursorRow.take_row.Goals as goal

pub returns-clause-row : goal.returns-clause-row
returns-clause-row g c j within =
    let words = c.args.self.now in
    let place = g.E.FastLanes.LANES * words.count + words.lane in
    let apart : place + j ≡ g.E.FastLanes.LANES * words.count + (words.lane + j) = omega arith in
    let in_row : j < 16 = rw g.met.E.RowTypes.sixteen_law at within in
    c.row_of_array.ensures j in_row
    ∙ taken_row g.E.FastLanes.number 16 place words.words c.next_row.result c.next_row.ensures.row j in_row
    ∙ ap (slice_index (map g.E.FastLanes.number words.words)) apart
