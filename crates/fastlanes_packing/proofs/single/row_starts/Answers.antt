use Rattle.std.proofs.Common.{◌*◌, ◌/◌, ◌%◌, ◌<◌, ◌∙◌, arith, lt_of_lt_of_le}
use Rattle.std.proofs.lemmas.List.{length-set}
use Rattle.fastlanes_base.specs.Order.{row_at}
use Rattle.fastlanes_packing.proofs.Counts.{at_most_64_rows}
use Rattle.fastlanes_packing.proofs.SingleDigits.{bits_in_rows, entry_more, shift_below_64, start_in_block, word_in_block}
use Rattle.fastlanes_packing.proofs.single.row_starts.Goals as goal

pub overflow_mul-LANES : goal.overflow_mul-LANES
overflow_mul-LANES g c =
    let below = start_in_block _ _ _ g.met.E.MachineWord.layout_law (rw c.T-k-end.ensures at c.loop-k-test.true) in
    rw c.LANES.ensures (omega (arith, below))

pub overflow_cast-LANES : goal.overflow_cast-LANES
overflow_cast-LANES g c =
    let below = start_in_block _ _ _ g.met.E.MachineWord.layout_law (rw c.T-k-end.ensures at c.loop-k-test.true) in
    rw c.LANES.ensures (omega (arith, below))

pub row_in_table-requires : goal.row_in_table-requires
row_in_table-requires g c = rw c.LANES.ensures (start_in_block _ _ _ g.met.E.MachineWord.layout_law (rw c.T-k-end.ensures at c.loop-k-test.true))

pub overflow_mul-bit : goal.overflow_mul-bit
overflow_mul-bit g c =
    let below = bits_in_rows _ _ _ g.met.E.MachineWord.bits_law c.row_in_table.ensures.below c.requires.width in
    omega (arith, below)

pub overflow_mul-words : goal.overflow_mul-words
overflow_mul-words g c =
    let below = word_in_block _ _ _ _ g.met.E.MachineWord.layout_law c.row_in_table.ensures.below c.requires.some c.requires.width in
    rw (c.LANES-in-loop-k.ensures, c.T.ensures) (omega (arith, below))

pub overflow_cast-words : goal.overflow_cast-words
overflow_cast-words g c =
    let below = word_in_block _ _ _ _ g.met.E.MachineWord.layout_law c.row_in_table.ensures.below c.requires.some c.requires.width in
    rw (c.LANES-in-loop-k.ensures, c.T.ensures) (omega (arith, below))

pub bounds-words-k : goal.bounds-words-k
bounds-words-k g c = lt_of_lt_of_le c.loop-k-test.true (at_most_64_rows _ _ g.met.E.MachineWord.bits_law c.T-k-end.ensures)

pub overflow_cast-shifts : goal.overflow_cast-shifts
overflow_cast-shifts g c =
    let below = shift_below_64 (c.row_in_table.result * c.args.width) _ g.met.E.MachineWord.bits_law in
    rw c.T-in-loop-k.ensures (omega (arith, below))

pub bounds-shifts-k : goal.bounds-shifts-k
bounds-shifts-k g c = lt_of_lt_of_le c.loop-k-test.true (at_most_64_rows _ _ g.met.E.MachineWord.bits_law c.T-k-end.ensures)

pub loop-k-preserved : goal.loop-k-preserved
loop-k-preserved g c =
    let (long_words, long_shifts, words, shifts) = c.loop-k.invariant in
    let below : c.loop-k.k < 64 = omega (arith, g.met.E.MachineWord.bits_law) in (
      length-set _ _ _ ∙ long_words,
      length-set _ _ _ ∙ long_shifts,
      entry_more (λ k. g.E.MachineWord.LANES * (row_at g.E.MachineWord.LANES (g.E.MachineWord.LANES * k) * c.args.width / g.E.MachineWord.T)) _ _ _ (rw long_words below) (cc) words,
      entry_more (λ k. row_at g.E.MachineWord.LANES (g.E.MachineWord.LANES * k) * c.args.width % g.E.MachineWord.T) _ _ _ (rw long_shifts below) (cc) shifts,
    )

pub returns : goal.returns
returns g c =
    let (long_words, long_shifts, words, shifts) = c.loop-k.invariant in
    let all = rw c.T-k-end.ensures at c.loop-k-test.false in
    record { words_at = λ k within. words k (lt_of_lt_of_le within all); shifts_at = λ k within. shifts k (lt_of_lt_of_le within all) }
