use Rattle.std.proofs.Common.{◌<◌, refl, ◌∙◌, arith, sym}
use Rattle.fastlanes_rows.proofs.RowDigits.{next_below}
use Rattle.fastlanes_rows.proofs.Begun.{begun_before, begun_inside, begun_none, begun_one, begun_two, begun_two_more, begun_two_part, start_fits}
use Rattle.fastlanes_rows.proofs.RowsRead.{carries_first, carries_none, carries_second, digit_in_one, digit_in_two}
use Rattle.fastlanes_rows.proofs.rows.unpack_step.Goals as goal

pub returns-then-width-eq0-clause-taken : goal.returns-then-width-eq0-clause-taken
returns-then-width-eq0-clause-taken g c = rw (sym (c.requires.reads.count ∙ begun_none _ _ c.args.row c.if-width-eq0.true)) refl

pub returns-then-width-eq0-clause-carry : goal.returns-then-width-eq0-clause-carry
returns-then-width-eq0-clause-carry g c = record {
  takes = λ more. absurd (omega (arith, more));
  keeps = λ _. refl;
  carried = λ j within. carries_none _ _ _ _ _ _ _ (omega (arith, c.requires.row)) c.if-width-eq0.true;
}

pub overflow_mul-shift : goal.overflow_mul-shift
overflow_mul-shift g c = start_fits _ _ _ g.met.E.MachineWord.bits_law c.requires.width c.requires.row

pub returns-then-shift-width-clause-digits : goal.returns-then-shift-width-clause-digits
returns-then-shift-width-clause-digits g c j within =
    let fits = rw (c.T.ensures, c.T-2.ensures) at c.if-shift-width.true in
    digit_in_one _ _ _ _ c.args.row _ _ _ _ c.requires.row (omega (arith, c.if-width-eq0.false)) fits (c.first_words-first.ensures.first j within)
    (c.down.ensures.below j within) (rw c.T.ensures at (c.down.ensures.value j within)) (c.low.ensures.value j within)

pub returns-then-shift-width-clause-taken : goal.returns-then-shift-width-clause-taken
returns-then-shift-width-clause-taken g c =
    let fits = rw (c.T.ensures, c.T-2.ensures) at c.if-shift-width.true in
    rw (begun_one _ _ c.args.row (omega (arith, c.if-width-eq0.false)) fits) c.first_words-first.ensures.taken

pub returns-then-shift-width-clause-carry : goal.returns-then-shift-width-clause-carry
returns-then-shift-width-clause-carry g c =
    let some : 0 < g.E.MachineWord.T = omega (arith, c.requires.row) in
    let fits = rw (c.T.ensures, c.T-2.ensures) at c.if-shift-width.true in
    let first = c.first_words-first.ensures in
    record {
      takes = λ more j within.
          let fewer = rw (first.taken, c.requires.reads.count) at more in
          rw (c.requires.reads.count ∙ begun_before _ _ c.args.row some fewer) (first.first j within);
      keeps = λ same. first.kept (begun_inside _ _ c.args.row some (rw (first.taken, c.requires.reads.count) at same));
      carried = λ j within. carries_first _ _ _ _ c.args.row _ _ c.requires.row c.requires.width fits (first.first j within);
    }

pub take_row-next-requires : goal.take_row-next-requires
take_row-next-requires g c =
    let some : 0 < g.E.MachineWord.T = omega (arith, c.requires.row) in
    let more = rw (c.T.ensures, c.T-2.ensures) at c.if-shift-width.false in
    rw (c.first_words-first.ensures.taken, c.requires.reads.same_width) (next_below _ _ c.args.row some c.requires.row more)

pub returns-clause-digits : goal.returns-clause-digits
returns-clause-digits g c j within =
    let more = rw (c.T.ensures, c.T-2.ensures) at c.if-shift-width.false in
    let next = rw c.first_words-first.ensures.taken at (c.take_row-next.ensures.row j within) in
    let joined = rw c.T.ensures at c.joined_of_both.ensures in
    digit_in_two _ _ _ _ c.args.row _ _ _ _ c.requires.row c.requires.width more (c.first_words-first.ensures.first j within) next
    (joined.low_below j within) (λ _. joined.high_below j within) (joined.value j within)

pub returns-clause-taken : goal.returns-clause-taken
returns-clause-taken g c =
    let some : 0 < g.E.MachineWord.T = omega (arith, c.requires.row) in
    let more = rw (c.T.ensures, c.T-2.ensures) at c.if-shift-width.false in
    rw (begun_two _ _ c.args.row some c.requires.width more) (rw c.first_words-first.ensures.taken at c.take_row-next.ensures.step)

pub returns-clause-carry : goal.returns-clause-carry
returns-clause-carry g c =
    let some : 0 < g.E.MachineWord.T = omega (arith, c.requires.row) in
    let more = rw (c.T.ensures, c.T-2.ensures) at c.if-shift-width.false in
    let next = rw c.first_words-first.ensures.taken at c.take_row-next.ensures.row in
    let taken = c.requires.reads.count ∙ begun_two_part _ _ c.args.row some c.requires.width more in
    record {
      takes = λ _ j within. rw taken (sym (next j within));
      keeps = λ same. absurd (begun_two_more _ _ c.args.row some c.requires.width more (rw (returns-clause-taken g c, c.requires.reads.count) at same));
      carried = λ j within. carries_second _ _ _ _ c.args.row _ _ c.requires.row c.requires.width more (next j within);
    }
