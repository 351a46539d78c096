use Rattle.std.proofs.Common.{◌<◌, ◌≤◌, ◌*◌, ◌/◌, ◌+◌, ◌%◌, ℕ, ap, map, sym, arith, ◌∙◌}
use Rattle.fastlanes_rows.proofs.RowDigits.{first_below, next_below, read_one, read_pair}
use Rattle.fastlanes_rows.proofs.RowWords.{next_word}
use Rattle.fastlanes_packing.proofs.Counts.{reads_word}
use Rattle.fastlanes_packing.proofs.lane.probe_some_bits.Goals as goal

pub word-first-requires-clause-word : goal.word-first-requires-clause-word
word-first-requires-clause-word g c =
    let some : 0 < g.E.MachineWord.T = omega arith in
    rw (c.T-2.ensures, c.requires.width) (first_below _ _ _ some c.requires.row c.requires.some)

pub returns-then-shift-width-clause-probe : goal.returns-then-shift-width-clause-probe
returns-then-shift-width-clause-probe g c =
    let one = reads_word _ _ _ c.requires.some (rw (c.T.ensures, c.T-3.ensures) at c.if-shift-width.true) in
    c.word-first.ensures.step ∙ ap (λ (k : ℕ). record c.args.probe.now { count = c.args.probe.now.count + k }) (sym one)

pub returns-then-shift-width-clause-digit : goal.returns-then-shift-width-clause-digit
returns-then-shift-width-clause-digit g c =
    let some : 0 < g.E.MachineWord.T = omega arith in
    let first = sym (rw c.T-2.ensures at c.word-first.ensures.word) in
    let read = read_one g.E.MachineWord.T g.E.MachineWord.LANES c.args.width c.args.probe.now.lane c.args.row (map g.E.MachineWord.number c.args.probe.now.words) _ some c.requires.row c.requires.some (rw (c.T.ensures, c.T-3.ensures) at c.if-shift-width.true) first c.digit_of_word.ensures.below in
    cc

pub word-next-requires-clause-word : goal.word-next-requires-clause-word
word-next-requires-clause-word g c =
    let some : 0 < g.E.MachineWord.T = omega arith in
    let below : c.args.row * c.args.width / g.E.MachineWord.T + 1 < c.args.width =
    next_below g.E.MachineWord.T c.args.width c.args.row some c.requires.row (rw (c.T.ensures, c.T-3.ensures) at c.if-shift-width.false)
    in
    rw (c.T-4.ensures, c.word-first.ensures.step, c.requires.width) below

pub word-next-requires-clause-room : goal.word-next-requires-clause-room
word-next-requires-clause-room g c = rw c.word-first.ensures.step (omega arith)

pub returns-clause-digit : goal.returns-clause-digit
returns-clause-digit g c =
    let some : 0 < g.E.MachineWord.T = omega arith in
    let more : g.E.MachineWord.T < c.args.row * c.args.width % g.E.MachineWord.T + c.args.width = rw (c.T.ensures, c.T-3.ensures) at c.if-shift-width.false in
    let first = sym (rw c.T-2.ensures at c.word-first.ensures.word) in
    let next = next_word g.E.MachineWord.LANES c.args.probe.now.lane (c.args.row * c.args.width / g.E.MachineWord.T) (map g.E.MachineWord.number c.args.probe.now.words) _ (rw (c.T-4.ensures, c.word-first.ensures.step) at c.word-next.ensures.word) in
    let narrow : c.args.width ≤ g.E.MachineWord.T = omega arith in
    let read = read_pair g.E.MachineWord.T g.E.MachineWord.LANES c.args.width c.args.probe.now.lane c.args.row (map g.E.MachineWord.number c.args.probe.now.words) _ _ some c.requires.row more first next c.digit_of_words.ensures.first_below c.digit_of_words.ensures.next_below narrow in
    cc
