use Rattle.std.proofs.Common.{List}
use Rattle.fastlanes_runs.specs.RunSteps.{IsEncodedTo}
use Rattle.fastlanes_runs.proofs.rle.encode_sixteen.Given as goal

abbrev pub invariant-loop-i : goal.invariant-loop-i
invariant-loop-i g l = (before : List g.row.V.Denot)
    → IsEncodedTo g.V.PartialEq.eq l.input before l.from l.run.start l.run.number l.rle_vals l.initial.rle_idxs
    → IsEncodedTo g.V.PartialEq.eq l.input before l.i l.run.start l.run.number l.rle_vals l.rle_idxs
