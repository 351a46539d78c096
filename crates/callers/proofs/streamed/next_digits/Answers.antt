use Rattle.std.proofs.Common.{rules, ◌≤◌, ◌<◌, ◌+◌, ◌*◌, ◌%◌, arith, sym, ◌∙◌}
use Rattle.fastlanes.proofs.Begun.{begun_none, begun_one, begun_two, start_fits}
use Rattle.callers.proofs.Streams.{digits_joined, rows_left, shift_fits}
use Rattle.callers.proofs.streamed.next_digits.Goals as goal

pub next_words-requires : goal.next_words-requires
next_words-requires g c =
    let t = g.E.FastLanes.T in
    let more : t < c.args.row * c.args.width % t + c.args.width = rw (c.T.ensures, c.T-2.ensures) at c.if-shift-width.false in
    let next = begun_two t c.args.width c.args.row (omega (arith, c.requires.row)) c.requires.width more in
    let begun = c.begin_row.ensures in
    (search rules, rw begun.same (rows_left _ _ _ _ _ c.requires.row (omega (arith, next, begun.asked)) c.requires.words))

pub returns-then-shift-width-clause-digits : goal.returns-then-shift-width-clause-digits
returns-then-shift-width-clause-digits g c =
    let t = g.E.FastLanes.T in
    let fits : c.args.row * c.args.width % t + c.args.width ≤ t = rw (c.T.ensures, c.T-2.ensures) at c.if-shift-width.true in
    let begun = c.begin_row.ensures in
    digits_joined _ _ _ _ 0 _ _ _ _ c.requires.row c.requires.width begun.asked begun.last (λ more. absurd (omega (arith, more, fits)))
    (rw c.T.ensures at c.join_row.ensures)

pub returns-clause-digits : goal.returns-clause-digits
returns-clause-digits g c =
    let begun = c.begin_row.ensures in
    let next = rw begun.same at c.next_words.ensures in
    digits_joined _ _ _ _ _ _ _ _ _ c.requires.row c.requires.width begun.asked begun.last (λ more. (next.asked, next.last))
    (rw c.T.ensures at c.join_row-2.ensures)

pub overflow_mul-shift : goal.overflow_mul-shift
overflow_mul-shift g c = start_fits _ _ _ g.met.E.FastLanes.bits_law c.requires.width c.requires.row

pub nonzero_rem-shift : goal.nonzero_rem-shift
nonzero_rem-shift g c = omega (arith, g.met.E.FastLanes.bits_law)

pub overflow_add-shift : goal.overflow_add-shift
overflow_add-shift g c = shift_fits _ _ _ _ g.met.E.FastLanes.bits_law c.T.ensures c.requires.width

pub returns-then-width-eq0-clause-stands : goal.returns-then-width-eq0-clause-stands
returns-then-width-eq0-clause-stands g c =
    (c.requires.stands.0 ∙ begun_none _ _ _ c.if-width-eq0.true, c.requires.stands.1)

pub returns-then-shift-width-clause-stands : goal.returns-then-shift-width-clause-stands
returns-then-shift-width-clause-stands g c =
    let fits : c.args.row * c.args.width % g.E.FastLanes.T + c.args.width ≤ g.E.FastLanes.T = rw (c.T.ensures, c.T-2.ensures) at c.if-shift-width.true in
    (c.begin_row.ensures.asked ∙ sym (begun_one _ _ _ (omega arith) fits), c.begin_row.ensures.last)

pub returns-clause-stands : goal.returns-clause-stands
returns-clause-stands g c =
    let t = g.E.FastLanes.T in
    let more : t < c.args.row * c.args.width % t + c.args.width = rw (c.T.ensures, c.T-2.ensures) at c.if-shift-width.false in
    let next = begun_two t c.args.width c.args.row (omega (arith, c.requires.row)) c.requires.width more in
    (omega (arith, next, c.begin_row.ensures.asked, c.next_words.ensures.asked), rw c.begin_row.ensures.same at c.next_words.ensures.last)
