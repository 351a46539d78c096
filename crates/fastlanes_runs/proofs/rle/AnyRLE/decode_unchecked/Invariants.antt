use Rattle.std.proofs.Common.{◌*◌, map}
use Rattle.fastlanes_runs.specs.RunSteps.{DecodesPlaces}
use Rattle.fastlanes_runs.proofs.rle.AnyRLE.decode_unchecked.Given as goal

abbrev pub invariant-loop-group : goal.invariant-loop-group
invariant-loop-group g l = DecodesPlaces (map g.I.RunIndex.place l.rle_idxs) l.rle_vals 0 (16 * l.group) l.initial.output l.output
