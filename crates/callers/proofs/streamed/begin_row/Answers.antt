use Rattle.std.proofs.Common.{rules, ◌≡◌, ◌≢◌, ◌*◌, ◌%◌, arith, ◌∙◌}
use Rattle.fastlanes.proofs.Begun.{begun_one, begun_part, begun_whole, start_fits}
use Rattle.callers.proofs.Streams.{rows_left}
use Rattle.callers.proofs.streamed.begin_row.Goals as goal

pub next_words-requires : goal.next_words-requires
next_words-requires g c =
    let none : c.args.row * c.args.width % g.E.FastLanes.T ≡ 0 = rw c.T.ensures at c.if-row-width-eq0.true in
    let begun = begun_whole g.E.FastLanes.T c.args.width c.args.row (omega (arith, c.requires.row)) none in
    let next = begun_one g.E.FastLanes.T c.args.width c.args.row c.requires.some (omega (arith, none, c.requires.width)) in
    (search rules, rows_left _ _ _ _ _ c.requires.row (omega (arith, next, begun, c.requires.stands.0)) c.requires.words)

pub overflow_mul-row : goal.overflow_mul-row
overflow_mul-row g c = start_fits _ _ _ g.met.E.FastLanes.bits_law c.requires.width c.requires.row

pub nonzero_rem-row : goal.nonzero_rem-row
nonzero_rem-row g c = omega (arith, g.met.E.FastLanes.bits_law)

pub returns-then-row-width-eq0-clause-last : goal.returns-then-row-width-eq0-clause-last
returns-then-row-width-eq0-clause-last g c = c.next_words.ensures.last

pub returns-then-row-width-eq0-clause-same : goal.returns-then-row-width-eq0-clause-same
returns-then-row-width-eq0-clause-same g c = c.next_words.ensures.same

pub returns-then-row-width-eq0-clause-asked : goal.returns-then-row-width-eq0-clause-asked
returns-then-row-width-eq0-clause-asked g c =
    let none : c.args.row * c.args.width % g.E.FastLanes.T ≡ 0 = rw c.T.ensures at c.if-row-width-eq0.true in
    let begun = begun_whole g.E.FastLanes.T c.args.width c.args.row (omega (arith, c.requires.row)) none in
    omega (arith, begun, c.requires.stands.0, c.next_words.ensures.asked)

pub returns-else-row-width-eq0-clause-asked : goal.returns-else-row-width-eq0-clause-asked
returns-else-row-width-eq0-clause-asked g c =
    let some : c.args.row * c.args.width % g.E.FastLanes.T ≢ 0 = rw c.T.ensures at c.if-row-width-eq0.false in
    c.requires.stands.0 ∙ begun_part _ _ _ (omega (arith, c.requires.row)) (omega (arith, some))
