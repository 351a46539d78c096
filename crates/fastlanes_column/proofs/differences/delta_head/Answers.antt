use Rattle.fastlanes_column.proofs.Neighbours.{least_width_of_lanes}
use Rattle.fastlanes_column.proofs.WidthBounds.{least_width_of_joined}
use Rattle.fastlanes_column.proofs.differences.delta_head.Goals as goal

pub returns-clause-width : goal.returns-clause-width
returns-clause-width g c =
    least_width_of_lanes _ _ _ _ _ _ g.met.E.FastLanes.layout_law c.put_before.ensures
    (least_width_of_joined _ _ _ c.width_of.ensures.exact c.joined_apart.ensures)
