use Rattle.std.proofs.Common.{ap, not, ◌∙◌, arith}
use Rattle.fastlanes_runs.proofs.RunEncoding.{encoded_same, is_start-encoded}
use Rattle.fastlanes_runs.proofs.rle.encode_sixteen.Goals as goal

pub loop-i-preserved : goal.loop-i-preserved
loop-i-preserved g c = λ before so_far.
    let here = c.loop-i.invariant before so_far in
    encoded_same here (omega arith) (is_start-encoded here ∙ ap not (c.goes_on.ensures.0 c.if-goes_on.true c.loop-i.i c.loop-i.auto.i (omega arith)))
