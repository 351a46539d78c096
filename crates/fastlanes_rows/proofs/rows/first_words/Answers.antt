use Rattle.std.proofs.Common.{◌<◌, ◌*◌, ◌%◌, refl, ap, sym, ◌∙◌, arith}
use Rattle.fastlanes_rows.proofs.RowDigits.{first_below}
use Rattle.fastlanes_rows.proofs.Begun.{begun_part, begun_whole, start_fits}
use Rattle.fastlanes_rows.proofs.rows.first_words.Goals as goal

pub overflow_mul-row : goal.overflow_mul-row
overflow_mul-row g c = start_fits _ _ _ g.met.E.MachineWord.bits_law c.requires.width c.requires.row

pub T-requires : goal.T-requires
T-requires g c _ within = within

pub take_row-requires : goal.take_row-requires
take_row-requires g c =
    let some : 0 < g.E.MachineWord.T = omega arith in
    let count = c.requires.reads.count ∙ begun_whole _ _ c.args.row some (rw c.T.ensures at c.if-row-width-eq0.true) in
    rw (count, c.requires.reads.same_width) (first_below _ _ c.args.row some c.requires.row c.requires.some)

pub returns-then-row-width-eq0-clause-first : goal.returns-then-row-width-eq0-clause-first
returns-then-row-width-eq0-clause-first g c j within =
    let some : 0 < g.E.MachineWord.T = omega arith in
    let count = c.requires.reads.count ∙ begun_whole _ _ c.args.row some (rw c.T.ensures at c.if-row-width-eq0.true) in
    sym (rw count at (c.take_row.ensures.row j within))

pub returns-then-row-width-eq0-clause-taken : goal.returns-then-row-width-eq0-clause-taken
returns-then-row-width-eq0-clause-taken g c =
    let some : 0 < g.E.MachineWord.T = omega arith in
    let count = c.requires.reads.count ∙ begun_whole _ _ c.args.row some (rw c.T.ensures at c.if-row-width-eq0.true) in
    rw count at c.take_row.ensures.step

pub returns-else-row-width-eq0-clause-kept : goal.returns-else-row-width-eq0-clause-kept
returns-else-row-width-eq0-clause-kept g c _ = refl

pub returns-else-row-width-eq0-clause-taken : goal.returns-else-row-width-eq0-clause-taken
returns-else-row-width-eq0-clause-taken g c =
    let some : 0 < g.E.MachineWord.T = omega arith in
    let inside : 0 < c.args.row * c.args.width % g.E.MachineWord.T = omega (arith, rw c.T.ensures at c.if-row-width-eq0.false) in
    let words = g.C.WordCursor.counted c.args.words.now in
    ap (λ k. record words { count = k }) (c.requires.reads.count ∙ begun_part _ _ c.args.row some inside)
