use Rattle.std.proofs.Common.{◌≡◌, ◌+◌, ap, arith, lit<, map, ◌∙◌}
use Rattle.fastlanes_base.specs.Counted.{Counted}
use Rattle.fastlanes_packing.specs.Kernels.{lane_digit}
use Rattle.fastlanes_packing.proofs.Walking.{digit_at_place, goes_on, may_call, runs_more}
use Rattle.fastlanes_rows.proofs.RowsRead.{reads_lanes, reads_more}
use Rattle.fastlanes_packing.proofs.lane.UnpackingLaneRowStepLaneWords.step.Goals as goal

pub unpack_step-digit-requires-clause-reads : goal.unpack_step-digit-requires-clause-reads
unpack_step-digit-requires-clause-reads g c = reads_lanes _ _ _ _ _ _ _ _ _ c.requires.stands.2

pub kernel-requires : goal.kernel-requires
kernel-requires g c =
    let (_, in_lanes, reads, on) = c.requires.stands in
    let same : c.args.words.now.lane + 0 ≡ c.args.lane = omega (arith, reads.same_lane) in
    let is = digit_at_place _ _ _ _ _ _ _ _ g.met.E.MachineWord.layout_law c.requires.row in_lanes same (c.unpack_step-digit.ensures.digits 0 (lit< tt)) in
    rw c.index.ensures (may_call _ _ (lane_digit g.E.MachineWord.T g.E.MachineWord.LANES c.args.width (map g.E.MachineWord.number c.args.words.now.words) c.args.lane) _ _ _ c.requires.row on c.unpack_step-digit.result.0.0 is)

pub returns-clause-stands : goal.returns-clause-stands
returns-clause-stands g c =
    let (narrow, in_lanes, reads, on) = c.requires.stands in
    let same : c.args.words.now.lane + 0 ≡ c.args.lane = omega (arith, reads.same_lane) in
    let is = digit_at_place _ _ _ _ _ _ _ _ g.met.E.MachineWord.layout_law c.requires.row in_lanes same (c.unpack_step-digit.ensures.digits 0 (lit< tt)) in (
      narrow,
      in_lanes,
      reads_more _ _ _ _ _ _ _ _ _ _ _ reads c.unpack_step-digit.ensures.taken c.unpack_step-digit.ensures.carry.carried,
      rw c.unpack_step-digit.ensures.taken (goes_on _ _ (lane_digit g.E.MachineWord.T g.E.MachineWord.LANES c.args.width (map g.E.MachineWord.number c.args.words.now.words) c.args.lane) _ _ _ _ _ c.requires.row on (c.unpack_step-digit.result.0.0, is, rw c.index.ensures at c.kernel.ensures)),
    )

pub returns-clause-leads : goal.returns-clause-leads
returns-clause-leads g c before start so_far =
    let (_, in_lanes, reads, on) = c.requires.stands in
    let same : c.args.words.now.lane + 0 ≡ c.args.lane = omega (arith, reads.same_lane) in
    let is = digit_at_place _ _ _ _ _ _ _ _ g.met.E.MachineWord.layout_law c.requires.row in_lanes same (c.unpack_step-digit.ensures.digits 0 (lit< tt)) in
    let argument = lane_digit g.E.MachineWord.T g.E.MachineWord.LANES c.args.width (map g.E.MachineWord.number c.args.words.now.words) c.args.lane in (
      ap (λ (s : Counted _). s.words) c.unpack_step-digit.ensures.taken ∙ so_far.0,
      rw c.unpack_step-digit.ensures.taken (runs_more _ _ _ _ _ argument _ _ so_far.1 (may_call _ _ argument _ _ _ c.requires.row on) (c.unpack_step-digit.result.0.0, is, rw c.index.ensures at c.kernel.ensures)),
    )
