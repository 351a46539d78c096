use Rattle.std.proofs.Common.{◌+◌, ◌-◌, ◌*◌, ◌%◌, ◌/◌, ◌^◌, ap, sym, ◌∙◌, arith, bit_or}
use Rattle.std.proofs.lemmas.Nat.{or_mod}
use Rattle.fastlanes_rows.proofs.RowDigits.{joined_at_start, joined_inside}
use Rattle.fastlanes_rows.proofs.rows.joined.Goals as goal

pub returns-then-shift-eq0-clause-value : goal.returns-then-shift-eq0-clause-value
returns-then-shift-eq0-clause-value g c j within =
    let none = c.if-shift-eq0.true in
    let low = g.V.RowVector.at c.args.low j in
    let both = low + g.V.RowVector.at c.args.high j * 2 ^ g.E.MachineWord.T in
    c.low-below.ensures.value j within
    ∙ ap (λ k. k % 2 ^ c.args.width) (c.down.ensures.value j within ∙ ap (λ k. low / 2 ^ k) none)
    ∙ joined_at_start _ _ low _ c.requires.width ∙ ap (λ k. both / 2 ^ k % 2 ^ c.args.width) (sym none)

pub returns-clause-value : goal.returns-clause-value
returns-clause-value g c j within =
    let t = g.E.MachineWord.T in
    let low = g.V.RowVector.at c.args.low j / 2 ^ c.args.shift in
    let high = g.V.RowVector.at c.args.high j * 2 ^ (t - c.args.shift) % 2 ^ t in
    let up = rw c.T.ensures at (c.up.ensures.value j within) in
    let below = c.low-below.ensures.value j within ∙ ap (λ k. k % 2 ^ c.args.width) (c.down.ensures.value j within) in
    let above = c.low.ensures.value j within ∙ ap (λ k. k % 2 ^ c.args.width) up in
    c.or.ensures j within ∙ (λ i. bit_or (below i) (above i))
    ∙ sym (or_mod low high c.args.width)
    ∙ joined_inside _ _ _ _ _ (omega (arith, c.requires.shift)) c.requires.width (c.down.ensures.below j within)
