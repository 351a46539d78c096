use Rattle.std.proofs.Common.{◌≡◌, ◌+◌, ◌*◌, subst}
use Rattle.fastlanes_base.specs.Counted.{Counted, row_from}
use Rattle.fastlanes_base.proofs.meter.RowWords.next_row.Goals as goal

pub returns-clause-row : goal.returns-clause-row
returns-clause-row g c =
    subst (λ (s : Counted g.row.E.Denot). c.read_row.result ≡ row_from 16 (g.E.FastLanes.LANES * s.count + s.lane) s.words) c.self.view_is (rw c.place_of_word-from.ensures.value at c.read_row.ensures)
