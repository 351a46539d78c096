use Rattle.std.proofs.Common.{◌≡◌, ◌<◌, ◌≤◌, arith, refl, rules}
use Rattle.std.proofs.lemmas.List.Elements.{All-weaker}
use Rattle.fastlanes_pages.specs.Masks.{holds_of}
use Rattle.fastlanes_pages.proofs.masks.filter_between.Goals as goal

pub returns-then-less-clause-told : goal.returns-then-less-clause-told
returns-then-less-clause-told g c = λ told values count least greatest.
    let number = g.E.MachineWord.number in
    let value = number c.args.value in
    let far : value < number c.args.least = search rules in
    c.fill_mask.ensures (holds_of c.args.comparison value) values count
    (All-weaker (λ x. number c.args.least ≤ x) (λ x. holds_of c.args.comparison value x ≡ c.answer_beside.result)
    (λ x above. c.answer_beside.ensures.greater refl value x (omega (arith, far, above))) values least)

pub returns-then-less-2-clause-told : goal.returns-then-less-2-clause-told
returns-then-less-2-clause-told g c = λ told values count least greatest.
    let number = g.E.MachineWord.number in
    let value = number c.args.value in
    let far : number c.args.greatest < value = search rules in
    c.fill_mask-then-less-2.ensures (holds_of c.args.comparison value) values count
    (All-weaker (λ x. x ≤ number c.args.greatest) (λ x. holds_of c.args.comparison value x ≡ c.answer_beside-then-less-2.result)
    (λ x below. c.answer_beside-then-less-2.ensures.less refl value x (omega (arith, far, below))) values greatest)
