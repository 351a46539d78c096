use Rattle.std.proofs.Common.{◌≡◌, ◌<◌, length, map, ap, arith, refl, rules, sym, ◌∙◌}
use Rattle.std.proofs.lemmas.Grind.{same_number_lists}
use Rattle.std.proofs.lemmas.List.{length-map}
use Rattle.fastlanes_packing.proofs.lane_rows.AnyLaneRows.unpack_row_from.Goals as goal

pub unpack_step-digits-requires-clause-reads : goal.unpack_step-digits-requires-clause-reads
unpack_step-digits-requires-clause-reads g c =
    let same = c.width.ensures.value ∙ c.requires.width in
    record {
      same_width = sym c.width.ensures.value;
      same_lane = refl;
      count = rw same c.requires.taken;
      carries = λ j within.
          let inside : j < 16 = rw g.met.E.RowTypes.sixteen_law at within in
          rw (same, c.row_of_array-begun.ensures j inside) (c.requires.carried j inside);
    }

pub returns-clause-digits : goal.returns-clause-digits
returns-clause-digits g c = λ j inside.
    let same = c.width.ensures.value ∙ c.requires.width in
    c.array_of_row-2.ensures.each j inside ∙ (rw (same, g.met.E.RowTypes.sixteen_law) at c.unpack_step-digits.ensures.digits) j inside

pub returns-clause-taken : goal.returns-clause-taken
returns-clause-taken g c =
    let same = c.width.ensures.value ∙ c.requires.width in
    rw same at c.unpack_step-digits.ensures.taken

pub returns-clause-carry : goal.returns-clause-carry
returns-clause-carry g c =
    let number = g.E.FastLanes.number in
    let same = c.width.ensures.value ∙ c.requires.width in
    let row = rw (same, g.met.E.RowTypes.sixteen_law) at c.unpack_step-digits.ensures.carry in
    let long : length (map number c.array_of_row.result) ≡ 16 = length-map c.array_of_row.result number ∙ c.array_of_row.ensures.long in
    let old : length c.args.carry.now ≡ 16 = search rules in
    record {
      takes = λ more j inside. row.takes more j inside ∙ sym (c.array_of_row.ensures.each j inside);
      keeps = λ none. same_number_lists _ _ (long ∙ sym (length-map c.args.carry.now number ∙ old)) (λ j within.
          let inside : j < 16 = omega (arith, within, long) in
          c.array_of_row.ensures.each j inside ∙ ap (λ v. g.E.Row.RowVector.at v j) (row.keeps none) ∙ c.row_of_array-begun.ensures j inside);
      carried = λ j inside. rw (c.array_of_row.ensures.each j inside) (row.carried j inside);
    }
