use Rattle.std.proofs.Common.{◌≡◌, ℕ, List, Bool, if◌then◌else◌, int_lt, ap, ◌∙◌}
use Rattle.std.proofs.lemmas.Int.{to_z-of_z}
use Rattle.std.proofs.lemmas.List.{map-id}
use Rattle.std.specs.Int.{cast_signed, w16}
use Rattle.fastlanes.specs.Digits.{digit}
use Rattle.callers.proofs.round_trips.places_of_less.Goals as goal

pub returns : goal.returns
returns g c = λ i in_block.
    let answer = (c.unpack_cmp.ensures.logical _ c.transpose_bits.ensures.moved).each i in_block in
    let said : answer.2 ≡ int_lt (cast_signed w16 answer.0) c.args.value =
    answer.3 ∙ ap (int_lt (cast_signed w16 answer.0)) (to_z-of_z w16 c.args.value c.ranges.value)
    in
    answer.4 ∙ ap (λ (b : Bool). if b then 1 else 0) (said ∙ ap (λ (x : ℕ). int_lt (cast_signed w16 x) c.args.value) answer.1)
    ∙ ap (λ (p : List ℕ). if int_lt (cast_signed w16 (digit 16 64 g.row.W p i)) c.args.value then 1 else 0) (map-id c.args.packed.now)
