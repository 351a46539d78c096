use Rattle.std.proofs.Common.{◌≡◌, ◌-◌, ◌∙◌, ap, arith, get_or, map, rules, sym}
use Rattle.std.proofs.lemmas.List.{get_or-map, length-map}
use Rattle.fastlanes_column_streams.proofs.find.pick_one.Goals as goal

pub returns-in-Some : goal.returns-in-Some
returns-in-Some g c =
    let number = g.E.MachineWord.number in
    let values = c.args.values.now in
    let some = c.in-Some.ensures.some in
    let i = c.in-Some.index in
    let at : c.args.number - c.args.before ≡ i = omega (arith, some.0) in
    let word : c.index-values-index.result ≡ get_or values i c.index-values-index.result = search rules in
    record {
      below = λ less. absurd (omega (arith, less, some.0));
      inside = λ behind within. c.to_number.ensures.value ∙ ap number word ∙ sym (get_or-map number values i c.index-values-index.result 0 some.1)
          ∙ ap (λ n. get_or (map number values) n 0) (sym at);
      above = λ behind. absurd (omega (arith, behind, some.0, some.1, length-map values number));
    }
