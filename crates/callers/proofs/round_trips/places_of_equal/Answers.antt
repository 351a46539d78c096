use Rattle.std.proofs.Common.{◌≡◌, ℕ, List, Bool, ◌==◌, if◌then◌else◌, ap, ◌∙◌}
use Rattle.std.proofs.lemmas.List.{map-id}
use Rattle.fastlanes.specs.Digits.{digit}
use Rattle.callers.proofs.round_trips.places_of_equal.Goals as goal

pub returns : goal.returns
returns g c = λ i in_block.
    let answer = (c.unpack_cmp.ensures.logical _ c.transpose_bits.ensures.moved).each i in_block in
    let said : answer.2 ≡ (answer.0 == c.args.value) = answer.3 in
    answer.4 ∙ ap (λ (b : Bool). if b then 1 else 0) (said ∙ ap (λ (x : ℕ). x == c.args.value) answer.1)
    ∙ ap (λ (p : List ℕ). if digit 16 64 g.row.W p i == c.args.value then 1 else 0) (map-id c.args.packed.now)
