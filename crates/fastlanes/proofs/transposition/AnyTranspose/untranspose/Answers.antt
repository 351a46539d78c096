use Rattle.std.proofs.Common.{◌≡◌, map, ap, arith, ◌∙◌}
use Rattle.std.specs.List.{slice_index}
use Rattle.fastlanes.proofs.Transposing.{tiles_untransposed, moved_forth, original_index-transposed, slice_index-untransposed, transposed_index-lt}
use Rattle.fastlanes.proofs.transposition.AnyTranspose.untranspose.Goals as goal

pub returns : goal.returns
returns g c =
    let last : c.loop-tile.tile ≡ 16 = omega arith in
    let moved = tiles_untransposed _ _ (rw last at c.loop-tile.invariant) in
    record {
      moved = moved;
      each = λ i in_block.
          rw moved
          (slice_index-untransposed _ _ (transposed_index-lt i in_block)
          ∙ ap (slice_index (map g.E.FastLanes.number c.args.input.now)) (original_index-transposed i in_block));
      back = moved_forth g.E.FastLanes.number c.args.input.now _ (omega arith) moved;
    }
