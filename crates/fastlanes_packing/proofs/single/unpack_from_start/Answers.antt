use Rattle.std.proofs.Common.{◌∙◌, ◌+◌, ◌*◌, ◌/◌, ◌%◌, ◌<◌, ℕ, ap, arith}
use Rattle.fastlanes_packing.proofs.SingleDigits.{digit-rows, first_place, lane_below, next_place, start_below_64, start_of}
use Rattle.fastlanes_packing.proofs.single.unpack_from_start.Goals as goal

pub bounds-words-start : goal.bounds-words-start
bounds-words-start g c = rw c.LANES-2.ensures (start_below_64 _ _ _ g.met.E.MachineWord.layout_law c.requires.index)

pub bounds-shifts-start : goal.bounds-shifts-start
bounds-shifts-start g c = rw c.LANES-2.ensures (start_below_64 _ _ _ g.met.E.MachineWord.layout_law c.requires.index)

pub digit_from-requires-clause-lane : goal.digit_from-requires-clause-lane
digit_from-requires-clause-lane g c = rw c.LANES.ensures (lane_below _ _ c.args.index g.met.E.MachineWord.layout_law)

pub digit_from-requires-clause-place : goal.digit_from-requires-clause-place
digit_from-requires-clause-place g c =
    ap (λ (n : ℕ). n + c.args.index % c.LANES.result) (rw c.LANES-2.ensures (start_of g.E.MachineWord.T g.E.MachineWord.LANES c.args.index c.row_in_table-row.result (λ r. g.E.MachineWord.LANES * (r * c.args.width / g.E.MachineWord.T)) c.args.words.now
    g.met.E.MachineWord.layout_law c.requires.index c.row_in_table-row.ensures.value c.requires.starts.words_at))

pub digit_from-requires-clause-shift : goal.digit_from-requires-clause-shift
digit_from-requires-clause-shift g c =
    rw c.LANES-2.ensures (start_of g.E.MachineWord.T g.E.MachineWord.LANES c.args.index c.row_in_table-row.result (λ r. r * c.args.width % g.E.MachineWord.T) c.args.shifts.now
    g.met.E.MachineWord.layout_law c.requires.index c.row_in_table-row.ensures.value c.requires.starts.shifts_at)

pub digit_from-requires-clause-within : goal.digit_from-requires-clause-within
digit_from-requires-clause-within g c =
    let rows : 0 < g.E.MachineWord.T = omega arith in
    first_place g.E.MachineWord.T g.E.MachineWord.LANES c.args.width _ c.row_in_table-row.result _ rows c.row_in_table-row.ensures.below c.requires.some
    (rw c.LANES.ensures (lane_below g.E.MachineWord.T g.E.MachineWord.LANES c.args.index g.met.E.MachineWord.layout_law)) (digit_from-requires-clause-place g c)

pub digit_from-requires-clause-next : goal.digit_from-requires-clause-next
digit_from-requires-clause-next g c = λ more.
    let rows : 0 < g.E.MachineWord.T = omega arith in
    next_place g.E.MachineWord.T g.E.MachineWord.LANES c.args.width _ c.row_in_table-row.result _ rows c.row_in_table-row.ensures.below
    (rw c.LANES.ensures (lane_below g.E.MachineWord.T g.E.MachineWord.LANES c.args.index g.met.E.MachineWord.layout_law)) (digit_from-requires-clause-place g c) more

pub returns : goal.returns
returns g c = c.digit_from.ensures ∙ digit-rows _ _ _ c.args.index _ _ _ (cc) c.row_in_table-row.ensures.value
