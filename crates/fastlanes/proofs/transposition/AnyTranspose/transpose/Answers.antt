use Rattle.std.proofs.Common.{◌≡◌, map, ap, arith, ◌∙◌}
use Rattle.std.specs.List.{slice_index}
use Rattle.fastlanes_base.proofs.Places.{place-lt}
use Rattle.fastlanes.proofs.Transposing.{tiles_transposed, moved_back, slice_index-transposed, transposed_index-lane, transposed_index-place}
use Rattle.fastlanes.proofs.transposition.AnyTranspose.transpose.Goals as goal

pub returns : goal.returns
returns g c =
    let layout = g.met.E.FastLanes.layout_law in
    let last : c.loop-tile.tile ≡ 16 = omega arith in
    let moved = tiles_transposed _ _ (rw last at c.loop-tile.invariant) in
    record {
      moved = moved;
      neighbours = λ row lane in_rows in_lanes.
          rw moved
          (slice_index-transposed _ _ (place-lt _ _ row lane layout in_rows in_lanes)
          ∙ ap (slice_index (map g.E.FastLanes.number c.args.input.now)) (transposed_index-place _ _ row lane layout in_rows in_lanes));
      index_law = λ row lane in_rows in_lanes. transposed_index-place _ _ row lane layout in_rows in_lanes;
      multiple = λ lane in_lanes. transposed_index-lane _ _ lane layout in_lanes;
      back = moved_back g.E.FastLanes.number c.args.input.now _ (omega arith) moved;
    }
