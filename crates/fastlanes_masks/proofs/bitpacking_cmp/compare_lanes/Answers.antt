use Rattle.std.proofs.Common.{◌+◌, ◌<◌, length, map, arith}
use Rattle.std.proofs.lemmas.List.{length-map, map-set}
use Rattle.fastlanes_base.specs.Digits.{row_digit}
use Rattle.fastlanes_masks.specs.Mask.{AreComparable}
use Rattle.fastlanes_masks.proofs.Answering.{lanes_more}
use Rattle.fastlanes_masks.proofs.bitpacking_cmp.compare_lanes.Goals as goal

pub loop-lane-init : goal.loop-lane-init
loop-lane-init g c = λ other in_lanes. absurd (omega arith)

pub loop-lane-preserved : goal.loop-lane-preserved
loop-lane-preserved g c =
    let in_list : c.loop-lane.lane < length (map g.E.MachineWord.number c.loop-lane.words) = rw length-map (omega arith) in
    rw map-set (lanes_more _ g.E.MachineWord.LANES _ _ _ (λ lane. row_digit g.E.MachineWord.T g.E.MachineWord.LANES g.N.Width.W (map g.E.MachineWord.number c.args.packed.now) (c.args.first + lane)) _ in_list c.compare_lane.ensures c.loop-lane.invariant)

pub compare_lane-requires-clause-callable : goal.compare_lane-requires-clause-callable
unfolding AreComparable
compare_lane-requires-clause-callable g c = λ row in_rows. c.requires.callable (c.args.first + c.loop-lane.lane) row (omega arith) in_rows

pub returns : goal.returns
returns g c = record { long = rw length-map (omega arith); each = λ lane in_lanes. c.loop-lane.invariant lane (omega arith) }
