use Rattle.std.proofs.Common.{◌≡◌, ◌<◌, ◌^◌, ℕ, below_more, get_or, length, map, ap, subst, sym, ◌∙◌, arith}
use Rattle.std.proofs.lemmas.List.{get_or-map, length-map}
use Rattle.std.proofs.lemmas.List.Elements.{All-from_get_or}
use Rattle.fastlanes_rows.proofs.range.know_range.Goals as goal

pub loop-word-preserved : goal.loop-word-preserved
loop-word-preserved g c =
    let is : get_or (map g.E.MachineWord.number c.args.words.now) c.loop-word.word-index 0 ≡ g.E.MachineWord.number c.word-item.result =
    get_or-map g.E.MachineWord.number c.args.words.now c.loop-word.word-index c.word-item.result 0 c.loop-word-test.true ∙ ap g.E.MachineWord.number (sym c.word-item.is)
    in
    below_more _ _ c.loop-word.invariant (subst (λ (n : ℕ). n < 2 ^ g.E.MachineWord.T) (sym is) c.low-low.ensures.below)

pub returns : goal.returns
returns g c = All-from_get_or (λ x. x < 2 ^ g.E.MachineWord.T) (map g.E.MachineWord.number c.args.words.now) 0 (λ i inside.
    let in_list : i < length c.args.words.now = rw length-map at inside in
    c.loop-word.invariant i (omega arith))
