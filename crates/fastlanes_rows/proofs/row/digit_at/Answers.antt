use Rattle.std.proofs.Common.{◌<◌, ◌*◌, ◌+◌, ◌%◌, ℕ, length, map, ap, sym, arith}
use Rattle.fastlanes_rows.proofs.RowDigits.{number_at_place, read_one, read_pair}
use Rattle.fastlanes_rows.proofs.row.digit_at.Goals as goal

pub returns-then-shift-width : goal.returns-then-shift-width
returns-then-shift-width g c =
    let some : 0 < g.E.MachineWord.T = omega arith in
    let wide : 0 < c.args.width = omega arith in
    let in_range : c.word_place-place.result < length c.args.packed.now = omega (arith, c.word_place-place.ensures.within) in
    let first = number_at_place g.E.MachineWord.number c.args.packed.now _ _ _ (sym c.word_place-place.ensures.value) in_range c.index-packed-place.is in
    let read = read_one g.E.MachineWord.T g.E.MachineWord.LANES c.args.width c.args.lane c.args.row (map g.E.MachineWord.number c.args.packed.now) _ some c.requires.row wide (rw (c.T.ensures, c.T-2.ensures) at c.if-shift-width.true) first c.digit_of_word.ensures.below in
    cc

pub returns : goal.returns
returns g c =
    let some : 0 < g.E.MachineWord.T = omega arith in
    let more : g.E.MachineWord.T < c.args.row * c.args.width % g.E.MachineWord.T + c.args.width = rw (c.T.ensures, c.T-2.ensures) at c.if-shift-width.false in
    let in_range : c.word_place-place.result < length c.args.packed.now = omega (arith, c.word_place-place.ensures.within) in
    let next_in_range : c.word_place-place.result + g.E.MachineWord.LANES < length c.args.packed.now = omega (arith, c.word_place-place.ensures.next) in
    let first = number_at_place g.E.MachineWord.number c.args.packed.now _ _ _ (sym c.word_place-place.ensures.value) in_range c.index-packed-place.is in
    let next = number_at_place g.E.MachineWord.number c.args.packed.now _ _ _ (ap (λ (k : ℕ). k + g.E.MachineWord.LANES) (sym c.word_place-place.ensures.value)) next_in_range (rw c.LANES.ensures at c.index-packed-place-2.is) in
    let read = read_pair g.E.MachineWord.T g.E.MachineWord.LANES c.args.width c.args.lane c.args.row (map g.E.MachineWord.number c.args.packed.now) _ _ some c.requires.row more first next c.digit_of_words.ensures.first_below c.digit_of_words.ensures.next_below c.requires.width in
    cc
