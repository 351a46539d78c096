use Rattle.std.proofs.Common.{◌-◌, ◌*◌, ◌%◌, ◌^◌, ap, ◌∙◌, arith, bit_or}
use Rattle.fastlanes_rows.proofs.RowDigits.{joined_cut, joined_rest}
use Rattle.fastlanes_rows.proofs.rows.joined_of_both.Goals as goal

pub returns-then-N-gt1-clause-value : goal.returns-then-N-gt1-clause-value
returns-then-N-gt1-clause-value g c j within =
    let up = rw c.T.ensures at (c.up.ensures.value j within) in
    let above = c.low.ensures.value j within ∙ ap (λ k. k % 2 ^ c.args.width) up in
    c.or.ensures j within ∙ (λ i. bit_or (c.down-below.ensures.value j within i) (above i))
    ∙ joined_cut _ _ _ _ _ (omega (arith, c.requires.shift)) c.requires.width (omega (arith, c.requires.both)) (c.down-below.ensures.below j within)

pub returns-clause-value : goal.returns-clause-value
returns-clause-value g c j within =
    let t = g.E.MachineWord.T in
    let rest = rw c.T-2.ensures at (c.low-rest.ensures.value j within) in
    let above = rw c.T-3.ensures at (c.up-2.ensures.value j within) ∙ ap (λ k. k * 2 ^ (t - c.args.shift) % 2 ^ t) rest in
    c.or-2.ensures j within ∙ (λ i. bit_or (c.down-below.ensures.value j within i) (above i))
    ∙ joined_rest _ _ _ _ _ (omega (arith, c.requires.shift)) c.requires.width (omega (arith, c.requires.both)) (c.down-below.ensures.below j within)
