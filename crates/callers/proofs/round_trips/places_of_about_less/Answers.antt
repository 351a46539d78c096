use Rattle.std.proofs.Common.{◌≡◌, List, ℕ, Bool, if◌then◌else◌, ap, nat_lt, sym, ◌∙◌}
use Rattle.std.proofs.lemmas.List.{map-id}
use Rattle.fastlanes.specs.Digits.{digit}
use Rattle.callers.proofs.round_trips.places_of_about_less.Goals as goal

pub returns-clause-others : goal.returns-clause-others
returns-clause-others g c = λ i in_block is_other.
    let answer = (c.unpack_cmp.ensures.logical _ c.transpose_bits.ensures.moved).each i in_block in
    let same = answer.1 ∙ ap (λ (p : List ℕ). digit 16 64 g.row.W p i) (map-id c.args.packed.now) in
    let said : answer.2 ≡ nat_lt answer.0 c.args.value = answer.3 (λ is. is_other (sym same ∙ is)) in
    answer.4 ∙ ap (λ (b : Bool). if b then 1 else 0) (said ∙ ap (λ (x : ℕ). nat_lt x c.args.value) same)
