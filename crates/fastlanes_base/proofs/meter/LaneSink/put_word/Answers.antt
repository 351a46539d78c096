use Rattle.std.proofs.Common.{ℕ, ◌+◌, ap}
use Rattle.std.specs.Prelude.{slice_set}
use Rattle.fastlanes_base.specs.Counted.{Written}
use Rattle.fastlanes_base.proofs.meter.LaneSink.put_word.Goals as goal

pub returns : goal.returns
returns g c =
    let s = c.args.self.now in
    let written_at : ℕ → Written g.row.E.Denot = λ place. record { target = s.packed.ghost_name; words = slice_set s.packed.now place c.args.word; width = s.width; lane = s.lane; count = s.written + 1 } in
    ap written_at c.place_of_word-place.ensures.value
