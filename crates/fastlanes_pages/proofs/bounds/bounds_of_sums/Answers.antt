use Rattle.std.proofs.Common.{◌<◌, arith}
use Rattle.fastlanes_pages.proofs.SumBounds.{bounds_leave, bounds_stay}
use Rattle.fastlanes_pages.specs.ColumnValues.{words_in}
use Rattle.fastlanes_pages.proofs.bounds.bounds_of_sums.Goals as goal

pub returns-then-digit-room : goal.returns-then-digit-room
returns-then-digit-room g c =
    let t = g.E.MachineWord.T in
    let some : 0 < t = omega (arith, g.met.E.MachineWord.bits_law) in
    let bases = c.base_bounds-least.ensures in
    let fits = rw c.T.ensures at c.if-digit-room.true in
    let sum = rw c.T-then-digit-room.ensures at c.of_number-sum.ensures in
    let are = bounds_stay t c.args.width _ _ _ _ _ _ _ _ (words_in t g.E.MachineWord.LANES c.args.before.now) some c.zero-zero.ensures c.one.ensures c.minus-all.ensures.value
    c.low.ensures.value c.to_number-digit.ensures.value bases.greatest c.minus.ensures.other_below c.minus.ensures.value c.to_number-room.ensures.value c.requires.width
    _ _ _ fits bases.least sum c.plus.ensures.value in
    record { least = are.0; greatest = are.1 }

pub returns-else-digit-room : goal.returns-else-digit-room
returns-else-digit-room g c =
    let t = g.E.MachineWord.T in
    let some : 0 < t = omega (arith, g.met.E.MachineWord.bits_law) in
    let over = rw c.T.ensures at c.if-digit-room.false in
    let are = bounds_leave t c.args.width _ _ _ _ _ _ _ _ (words_in t g.E.MachineWord.LANES c.args.before.now) some c.zero-zero.ensures c.one.ensures c.minus-all.ensures.value
    c.low.ensures.value c.to_number-digit.ensures.value c.base_bounds-least.ensures.greatest c.minus.ensures.other_below
    c.minus.ensures.value c.to_number-room.ensures.value c.requires.width over in
    record { least = are.0; greatest = are.1 }
