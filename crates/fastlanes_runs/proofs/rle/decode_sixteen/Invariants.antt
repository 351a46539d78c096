use Rattle.std.proofs.Common.{◌+◌, ◌*◌, map}
use Rattle.fastlanes_runs.specs.RunSteps.{DecodesPlaces}
use Rattle.fastlanes_runs.proofs.rle.decode_sixteen.Given as goal

abbrev pub invariant-loop-i : goal.invariant-loop-i
invariant-loop-i g l = DecodesPlaces (map g.I.RunIndex.place l.rle_idxs) l.rle_vals l.from l.i l.initial.output l.output

abbrev pub invariant-loop-four : goal.invariant-loop-four
invariant-loop-four g l = DecodesPlaces (map g.I.RunIndex.place l.rle_idxs) l.rle_vals l.from (l.from + 4 * l.four) l.initial.output l.output
