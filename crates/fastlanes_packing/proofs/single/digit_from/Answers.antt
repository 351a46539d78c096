use Rattle.std.proofs.Common.{◌<◌, ◌*◌, ◌+◌, ◌%◌, ℕ, length, map, ap, sym, arith}
use Rattle.fastlanes_rows.proofs.RowDigits.{number_at_place, read_one, read_joined}
use Rattle.fastlanes_packing.proofs.single.digit_from.Goals as goal

pub returns-then-shift-width : goal.returns-then-shift-width
returns-then-shift-width g c =
    let some : 0 < g.E.MachineWord.T = omega arith in
    let wide : 0 < c.args.width = c.requires.some in
    let in_range : c.args.place < length c.args.packed.now = omega arith in
    let word = number_at_place g.E.MachineWord.number c.args.packed.now _ _ _ (sym c.requires.place) in_range c.index-packed-place.is in
    let read = read_one g.E.MachineWord.T g.E.MachineWord.LANES c.args.width c.args.lane c.args.row (map g.E.MachineWord.number c.args.packed.now) _ some c.requires.row wide (rw (c.T.ensures, c.requires.shift) at c.if-shift-width.true) word c.down-low.ensures.below in
    cc

pub returns-else-shift-width : goal.returns-else-shift-width
returns-else-shift-width g c =
    let some : 0 < g.E.MachineWord.T = omega arith in
    let more : g.E.MachineWord.T < c.args.row * c.args.width % g.E.MachineWord.T + c.args.width = rw (c.T.ensures, c.requires.shift) at c.if-shift-width.false in
    let in_range : c.args.place < length c.args.packed.now = omega arith in
    let next_in_range : c.args.place + g.E.MachineWord.LANES < length c.args.packed.now = omega (arith, c.requires.next) in
    let word = number_at_place g.E.MachineWord.number c.args.packed.now _ _ _ (sym c.requires.place) in_range c.index-packed-place.is in
    let next = number_at_place g.E.MachineWord.number c.args.packed.now _ _ _ (ap (λ (k : ℕ). k + g.E.MachineWord.LANES) (sym c.requires.place)) next_in_range (rw c.LANES.ensures at c.index-packed-place-else-shift-width.is) in
    let read = read_joined g.E.MachineWord.T g.E.MachineWord.LANES c.args.width c.args.lane c.args.row (map g.E.MachineWord.number c.args.packed.now) _ _ some c.requires.row c.requires.width more word next c.down-low.ensures.below c.up-high.ensures.below in
    cc
