use Rattle.std.proofs.Common.{◌<◌, ◌≤◌, ◌+◌, arith}
use Rattle.fastlanes_base.specs.Sinks.{lane_sink}
use Rattle.fastlanes_rows.proofs.RowsHeld.{words_beside, words_beside_none}
use Rattle.fastlanes_packing.proofs.Walking.{packs_more, run_of-answers}
use Rattle.fastlanes_packing.proofs.Writing.{writing_more}
use Rattle.fastlanes_packing.proofs.lane.PackingLaneRowStepLaneSink.step.Goals as goal

pub kernel-requires : goal.kernel-requires
kernel-requires g c =
    let on = c.requires.stands.3 in
    rw c.index.ensures (on.may.at c.args.row c.args.kernel.now c.requires.row (run_of-answers _ _ _ _ _ _ on.run.run))

pub returns-clause-leads : goal.returns-clause-leads
returns-clause-leads g c start before so_far =
    let (narrow, in_lanes, writing, on) = c.requires.stands in
    let some : 0 < g.E.MachineWord.T = omega arith in
    let fits : c.args.lane + 1 ≤ g.E.MachineWord.LANES = omega (arith, in_lanes) in
    let allowed = on.may.at c.args.row c.args.kernel.now c.requires.row (run_of-answers _ _ _ _ _ _ on.run.run) in (
      packs_more _ _ _ _ _ _ _ _ start _ _ (lane_sink c.args.sink.now) (lane_sink c.pack_step.new.sink) _ _ _ some narrow in_lanes writing c.pack_step.ensures.packs allowed (rw c.index.ensures at c.kernel.ensures) so_far.0,
      words_beside _ _ _ _ _ _ _ _ _ _ _ (lane_sink c.args.sink.now) (lane_sink c.pack_step.new.sink) fits c.pack_step.ensures.packs writing.same_lane so_far.1,
    )

pub returns-clause-stands : goal.returns-clause-stands
returns-clause-stands g c =
    let (narrow, in_lanes, writing, on) = c.requires.stands in
    let more = returns-clause-leads g c on.start c.args.sink.now (on.run, words_beside_none _ _ _ _ _) in
    (narrow, in_lanes, writing_more _ _ _ _ _ _ _ _ writing more.1 c.pack_step.ensures.put, record { start = on.start; may = on.may; run = more.0 })
