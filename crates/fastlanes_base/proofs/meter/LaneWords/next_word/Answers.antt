use Rattle.std.proofs.Common.{arith, sym}
use Rattle.std.proofs.lemmas.List.{get_or-map}
use Rattle.fastlanes_base.proofs.meter.LaneWords.next_word.Goals as goal

pub returns-clause-word : goal.returns-clause-word
returns-clause-word g c =
    let place = c.place_of_word-place in
    rw (sym c.self.view_is, sym place.ensures.value) (sym (get_or-map g.E.MachineWord.number c.self.inside.packed.now place.result _ _ (omega (arith, place.ensures.within 1, c.self.invariant))))
