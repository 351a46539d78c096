use Rattle.std.proofs.Common.{◌%◌, ◌∙◌, ℕ, ap}
use Rattle.fastlanes_base.specs.Order.{lane_at}
use Rattle.fastlanes_base.proofs.Places.{lane_at-place}
use Rattle.fastlanes_base.proofs.order.lane_of.Goals as goal

pub returns-clause-value : goal.returns-clause-value
returns-clause-value g c = ap (λ (n : ℕ). c.args.i % n) c.LANES.ensures

pub returns-clause-only : goal.returns-clause-only
returns-clause-only g c row lane in_rows in_lanes is =
    returns-clause-value g c
    ∙ ap (lane_at g.E.FastLanes.LANES) is
    ∙ lane_at-place g.E.FastLanes.T g.E.FastLanes.LANES row lane g.met.E.FastLanes.layout_law in_rows in_lanes
