use Rattle.std.proofs.Common.{◌≡◌, ◌==◌, rules, ◌∙◌}
use Rattle.fastlanes.specs.Bits.{IsBitBlock}
use Rattle.fastlanes.proofs.Ones.{ones_of_digits}
use Rattle.callers.proofs.masks.count_equal.Goals as goal

pub returns : goal.returns
returns g c =
    let places = c.places_of_equal in
    let block : IsBitBlock places.result = record { long = search rules; small = λ k below. search rules } in
    c.ones.ensures ∙ ones_of_digits (λ x. x == c.args.value) 16 64 g.row.W _ _ block places.ensures
