use Rattle.std.proofs.Common.{◌+◌, ◌-◌, ◌*◌, ◌/◌, ◌%◌, ◌∙◌, ℕ, ap, slice_index}
use Rattle.fastlanes_base.specs.Order.{order, row_at}
use Rattle.fastlanes_base.proofs.Places.{place-at, row_at-lt, row_at-place}
use Rattle.fastlanes_base.proofs.order.row_of.Goals as goal

pub returns-clause-value : goal.returns-clause-value
returns-clause-value g c =
    let i = c.args.i in
    ap (λ (lane : ℕ). slice_index order ((i % 128 - lane) / 16) * 8 + i / 128) c.lane_of.ensures.value

pub returns-clause-below : goal.returns-clause-below
returns-clause-below g c = rw (returns-clause-value g c) (row_at-lt _ _ _ g.met.E.FastLanes.layout_law c.requires)

pub returns-clause-inverse : goal.returns-clause-inverse
returns-clause-inverse g c = rw (returns-clause-value g c) (place-at _ _ _ g.met.E.FastLanes.layout_law c.requires)

pub returns-clause-only : goal.returns-clause-only
returns-clause-only g c = λ row lane in_rows in_lanes is.
    returns-clause-value g c
    ∙ ap (row_at g.E.FastLanes.LANES) is
    ∙ row_at-place g.E.FastLanes.T g.E.FastLanes.LANES row lane g.met.E.FastLanes.layout_law in_rows in_lanes
