use Rattle.std.proofs.Common.{◌≡◌, ◌∙◌, Some, ap, arith, slice_index, sym}
use Rattle.std.proofs.lemmas.Option.{slice_get-get_or}
use Rattle.fastlanes_runs.proofs.RunDecoding.{decodes_next}
use Rattle.fastlanes_runs.proofs.rle.put_four.Goals as goal

pub loop-j-preserved : goal.loop-j-preserved
loop-j-preserved g c = λ idxs same.
    decodes_next c.index-rle_vals-places.result (c.loop-j.invariant idxs same) (omega arith) (omega arith) (omega arith)
    (rw (← same c.loop-j.j c.loop-j-test.true) (slice_get-get_or c.args.rle_vals.now (slice_index c.args.places c.loop-j.j) c.index-rle_vals-places.result
    (c.requires.named c.loop-j.j c.loop-j-test.true) ∙ ap Some (sym c.index-rle_vals-places.is)))

pub returns : goal.returns
returns g c = λ idxs same. let end : c.loop-j.j ≡ 4 = omega arith in rw end at (c.loop-j.invariant idxs same)
