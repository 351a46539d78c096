use Rattle.std.proofs.Common.{◌<◌, ◌*◌}
use Rattle.fastlanes_runs.specs.RunSteps.{IsEncodedTo}
use Rattle.fastlanes_runs.proofs.rle.AnyRLE.encode_unchecked.Given as goal

abbrev pub invariant-loop-group : goal.invariant-loop-group
invariant-loop-group g l = record {
  below : l.run.number < 16 * l.group;
  encoded : IsEncodedTo g.V.PartialEq.eq l.input l.fn.rle_vals (16 * l.group) l.run.start l.run.number l.rle_vals l.rle_idxs;
}
