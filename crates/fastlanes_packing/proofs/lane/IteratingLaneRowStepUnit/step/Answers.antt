use Rattle.fastlanes_packing.specs.Kernels.{lane_place}
use Rattle.fastlanes_packing.proofs.Walking.{goes_on, may_call, runs_more}
use Rattle.fastlanes_packing.proofs.lane.IteratingLaneRowStepUnit.step.Goals as goal

pub returns-clause-stands : goal.returns-clause-stands
returns-clause-stands g c =
    let argument = lane_place c.args.lane in
    (c.requires.stands.0, goes_on _ _ argument _ _ _ _ _ c.requires.row c.requires.stands.1 (rw c.index.ensures at c.kernel.ensures))

pub returns-clause-leads : goal.returns-clause-leads
returns-clause-leads g c reader start before =
    let argument = lane_place c.args.lane in
    runs_more _ _ _ _ _ argument _ _ before (may_call _ _ argument _ _ _ c.requires.row c.requires.stands.1) (rw c.index.ensures at c.kernel.ensures)
