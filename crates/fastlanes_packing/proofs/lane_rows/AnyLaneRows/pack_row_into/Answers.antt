use Rattle.std.proofs.Common.{◌<◌, ◌∙◌}
use Rattle.fastlanes_packing.proofs.lane_rows.AnyLaneRows.pack_row_into.Goals as goal

pub pack_step-rest-requires-clause-row : goal.pack_step-rest-requires-clause-row
pack_step-rest-requires-clause-row g c = c.requires.row

pub pack_step-rest-requires-clause-put : goal.pack_step-rest-requires-clause-put
pack_step-rest-requires-clause-put g c = rw (c.width.ensures.value ∙ c.requires.width) c.requires.written

pub pack_step-rest-requires-clause-carry : goal.pack_step-rest-requires-clause-carry
pack_step-rest-requires-clause-carry g c = λ j within.
    let inside : j < 16 = rw g.met.E.RowTypes.sixteen_law at within in
    let same = c.width.ensures.value ∙ c.requires.width in
    rw (c.row_of_array-2.ensures j inside, same) (c.requires.carry j inside)

pub returns-clause-packs : goal.returns-clause-packs
returns-clause-packs g c =
    let same = c.width.ensures.value ∙ c.requires.width in
    let row = rw (same, g.met.E.RowTypes.sixteen_law) at c.pack_step-rest.ensures.packs in
    record {
      stays = λ room. (
        (row.stays room).0,
        λ j inside.
            c.array_of_row.ensures.each j inside ∙ (rw (c.row_of_array.ensures j inside, c.row_of_array-2.ensures j inside) at ((row.stays room).1 j inside)),
      );
      fills = λ full.
          let put = row.fills full in
          record {
            stored = record {
              long = put.stored.long;
              here = λ j inside. rw (c.row_of_array.ensures j inside, c.row_of_array-2.ensures j inside) at (put.stored.here j inside);
              before = put.stored.before;
              after = put.stored.after;
            };
            left = λ j inside. c.array_of_row.ensures.each j inside ∙ (rw (c.row_of_array.ensures j inside, c.row_of_array-2.ensures j inside) at (put.left j inside));
            step = put.step;
          };
    }

pub returns-clause-written : goal.returns-clause-written
returns-clause-written g c =
    let same = c.width.ensures.value ∙ c.requires.width in
    rw same at c.pack_step-rest.ensures.put

pub returns-clause-carry : goal.returns-clause-carry
returns-clause-carry g c = λ j inside.
    let same = c.width.ensures.value ∙ c.requires.width in
    rw (c.array_of_row.ensures.each j inside) ((rw (same, g.met.E.RowTypes.sixteen_law) at c.pack_step-rest.ensures.carry) j inside)
