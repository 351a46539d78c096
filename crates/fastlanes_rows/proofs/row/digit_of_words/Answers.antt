use Rattle.std.proofs.Common.{◌≤◌, ◌+◌, ◌∙◌, arith}
use Rattle.fastlanes_rows.proofs.RowDigits.{joined_rest}
use Rattle.fastlanes_rows.proofs.row.digit_of_words.Goals as goal

pub returns-clause-value : goal.returns-clause-value
returns-clause-value g c =
    let low : c.args.shift ≤ g.E.MachineWord.T = omega arith in
    let more : g.E.MachineWord.T ≤ c.args.shift + c.args.width = omega arith in
    (rw (c.down-low.ensures.value, c.up-high.ensures.value, c.low-rest.ensures.value, c.T.ensures, c.T-2.ensures) at c.or.ensures.value)
    ∙ joined_rest _ _ _ _ _ low c.requires.width more c.down-low.ensures.below
