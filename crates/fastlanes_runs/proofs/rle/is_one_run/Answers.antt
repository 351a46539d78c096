use Rattle.std.proofs.Common.{◌≡◌, ◌∙◌, arith, map, sym, slice_index}
use Rattle.std.proofs.lemmas.List.{get_or-map}
use Rattle.fastlanes_runs.proofs.RunDecoding.{one_run-more}
use Rattle.fastlanes_runs.proofs.rle.is_one_run.Goals as goal

pub loop-i-preserved : goal.loop-i-preserved
loop-i-preserved g c =
    let places = map g.I.RunIndex.place c.args.rle_idxs.now in
    let here : slice_index places c.loop-i.i ≡ c.place.result =
    get_or-map g.I.RunIndex.place c.args.rle_idxs.now c.loop-i.i c.index-rle_idxs-i.result 0 (omega arith) ∙ sym c.place.ensures in
    rw (← here) (one_run-more places c.loop-i.all c.args.from c.loop-i.i c.args.place c.loop-i.auto.i c.loop-i.invariant)
