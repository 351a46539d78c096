use Rattle.std.proofs.Common.{◌≡◌, ◌+◌, ◌*◌, ◌∙◌, ap, arith, get_or, map, slice_index, subst, sym}
use Rattle.std.proofs.lemmas.List.{get_or-map}
use Rattle.fastlanes_base.specs.Counted.{Counted}
use Rattle.fastlanes_base.proofs.meter.WordProbe.word.Goals as goal

pub returns-clause-word : goal.returns-clause-word
returns-clause-word g c =
    let number = g.E.MachineWord.number in
    let packed = c.self.inside.packed.now in
    let place = c.place_of_word-place.result in
    subst (λ (s : Counted g.row.E.Denot). number (get_or packed place c.index-self-place.result) ≡ slice_index (map number s.words) (g.E.MachineWord.LANES * c.args.k + s.lane)) c.self.view_is
    (sym (get_or-map number packed place _ _ (omega (arith, c.place_of_word-place.ensures.within 1, c.self.invariant))) ∙ ap (slice_index (map number packed)) c.place_of_word-place.ensures.value)
