use Rattle.std.proofs.Common.{◌<◌, ◌≤◌, arith, count_ones, length, rules}
use Rattle.std.proofs.lemmas.List.Sums.{sum_by_more}
use Rattle.std.proofs.lemmas.Nat.{ones-le}
use Rattle.std.specs.List.{slice_index}
use Rattle.callers.proofs.masks.ones.Goals as goal

pub loop-k-preserved : goal.loop-k-preserved
loop-k-preserved c =
    let inside : c.loop-k.k < length c.args.words.now = omega (arith, c.told-words, c.loop-k-test.true) in
    let more = sum_by_more count_ones c.args.words.now c.loop-k.k 0 inside in
    let few : count_ones (slice_index c.args.words.now c.loop-k.k) ≤ 64 = ones-le 64 _ (search rules) in
    (omega (arith, more, c.loop-k.invariant.0), omega (arith, few, c.loop-k.invariant.1))
