use Rattle.std.proofs.Common.{◌≡◌, ℕ, List, Bool, if◌then◌else◌, nat_lt, ap, ◌∙◌}
use Rattle.std.proofs.lemmas.List.{map-id}
use Rattle.fastlanes.specs.Digits.{digit}
use Rattle.callers.proofs.masks.places_of_better.Goals as goal

pub returns : goal.returns
returns g c = λ i in_block.
    let answer = (c.unpack_cmp.ensures.logical _ c.transpose_bits.ensures.moved).each i in_block in
    let said : answer.2 ≡ nat_lt answer.0 c.args.mark.points = answer.3 in
    answer.4 ∙ ap (λ (b : Bool). if b then 1 else 0) (said ∙ ap (λ (x : ℕ). nat_lt x c.args.mark.points) answer.1)
    ∙ ap (λ (p : List ℕ). if nat_lt (digit 8 128 g.row.W p i) c.args.mark.points then 1 else 0) (map-id c.args.packed.now)
