use Rattle.std.proofs.Common.{◌<◌, ◌≤◌, ◌+◌, ◌-◌, ◌*◌, ◌%◌, ◌/◌, ◌^◌, refl, ap, sym, ◌∙◌, arith}
use Rattle.fastlanes_rows.proofs.Numbers.{join_high, row_fits}
use Rattle.fastlanes_rows.proofs.PackedRows.{next_fills, next_stays}
use Rattle.fastlanes_rows.proofs.RowDigits.{first_below}
use Rattle.fastlanes_rows.proofs.Begun.{start_fits}
use Rattle.fastlanes_rows.proofs.RowsHeld.{left_below_fills, left_below_stays}
use Rattle.fastlanes_rows.proofs.RowsStored.{stored_same}
use Rattle.fastlanes_rows.proofs.rows.pack_step.Goals as goal

pub overflow_mul-shift : goal.overflow_mul-shift
overflow_mul-shift g c = start_fits _ _ _ g.met.E.MachineWord.bits_law c.requires.width c.requires.row

pub joined_words-words-requires-clause-carry : goal.joined_words-words-requires-clause-carry
joined_words-words-requires-clause-carry g c j within = rw c.T.ensures (c.requires.carry j within)

pub put_row-requires : goal.put_row-requires
put_row-requires g c =
    let some : 0 < g.E.MachineWord.T = omega (arith, c.requires.row) in
    let full = rw (c.T.ensures, c.T-2.ensures) at c.if-shift-width.false in
    rw (c.requires.put, c.requires.same) (first_below _ _ c.args.row some c.requires.row (omega (arith, full)))

pub returns-then-shift-width-clause-packs : goal.returns-then-shift-width-clause-packs
returns-then-shift-width-clause-packs g c =
    let t = g.E.MachineWord.T in
    let shift = c.args.row * c.args.width % t in
    let carry = g.V.RowVector.at c.args.carry in
    record {
      stays = λ room. (
        refl,
        λ j within.
            rw c.T.ensures at (c.joined_words-words.ensures.value j within) ∙ ap (λ k. (carry j + k * 2 ^ shift) % 2 ^ t) (c.digits_for-digits.ensures.value j within)
            ∙ row_fits t shift c.args.width (carry j) (g.V.RowVector.at c.args.values j) (omega (arith, room)) (c.requires.carry j within),
      );
      fills = λ full. absurd (omega (arith, full, rw (c.T.ensures, c.T-2.ensures) at c.if-shift-width.true));
    }

pub returns-clause-packs : goal.returns-clause-packs
returns-clause-packs g c =
    let t = g.E.MachineWord.T in
    let shift = c.args.row * c.args.width % t in
    let carry = g.V.RowVector.at c.args.carry in
    let inside : shift ≤ t = omega arith in
    let old = g.S.WordSink.written c.args.sink.now in
    let new = g.S.WordSink.written c.put_row.new.self in
    record {
      stays = λ room. absurd (omega (arith, room, rw (c.T.ensures, c.T-2.ensures) at c.if-shift-width.false));
      fills = λ full. record {
        stored = stored_same _ _ _ _ _ _ (λ j within.
            rw c.T.ensures at (c.joined_words-words.ensures.value j within) ∙ ap (λ k. (carry j + k * 2 ^ shift) % 2 ^ t) (c.digits_for-digits.ensures.value j within))
            (rw c.requires.put at c.put_row.ensures.stored);
        left = λ j within.
            rw c.T.ensures at (c.left_over.ensures j within) ∙ ap (λ k. k / 2 ^ (t - shift)) (c.digits_for-digits.ensures.value j within)
            ∙ sym (join_high t shift (carry j) (g.V.RowVector.at c.args.values j % 2 ^ c.args.width) inside (c.requires.carry j within));
        step = c.put_row.ensures.step ∙ ap (λ k. record old { words = new.words; count = k + 1 }) c.requires.put;
      };
    }

pub returns-then-shift-width-clause-carry : goal.returns-then-shift-width-clause-carry
returns-then-shift-width-clause-carry g c j within =
    let room = rw (c.T.ensures, c.T-2.ensures) at c.if-shift-width.true in
    let rest = ((returns-then-shift-width-clause-packs g c).stays room).1 j within in
    left_below_stays _ _ _ _ _ _ room (c.requires.carry j within) rest

pub returns-clause-carry : goal.returns-clause-carry
returns-clause-carry g c j within =
    let t = g.E.MachineWord.T in
    let some : 0 < t = omega (arith, c.requires.row) in
    let full : t ≤ c.args.row * c.args.width % t + c.args.width = rw (c.T.ensures, c.T-2.ensures) at c.if-shift-width.false in
    let rest = ((returns-clause-packs g c).fills full).left j within in
    left_below_fills _ _ _ _ _ _ some c.requires.width full (c.requires.carry j within) rest

pub returns-then-shift-width-clause-put : goal.returns-then-shift-width-clause-put
returns-then-shift-width-clause-put g c =
    let room = rw (c.T.ensures, c.T-2.ensures) at c.if-shift-width.true in
    c.requires.put ∙ sym (next_stays _ _ _ room).0

pub returns-clause-put : goal.returns-clause-put
returns-clause-put g c =
    let t = g.E.MachineWord.T in
    let some : 0 < t = omega (arith, c.requires.row) in
    let full : t ≤ c.args.row * c.args.width % t + c.args.width = rw (c.T.ensures, c.T-2.ensures) at c.if-shift-width.false in
    ap (λ s. s.count) ((returns-clause-packs g c).fills full).step ∙ sym (next_fills _ _ _ some c.requires.width full).0
