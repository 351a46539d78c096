use Rattle.fastlanes_column.proofs.Neighbours.{least_width_along_lanes}
use Rattle.fastlanes_column.proofs.WidthBounds.{least_width_of_joined}
use Rattle.fastlanes_column.proofs.differences.delta_width.Goals as goal

pub returns-clause-width : goal.returns-clause-width
returns-clause-width g c = least_width_of_joined _ _ _ c.width_of.ensures.exact c.joined_neighbours.ensures

pub returns-clause-lanes : goal.returns-clause-lanes
returns-clause-lanes g c = least_width_along_lanes _ _ _ _ _ g.met.E.FastLanes.layout_law (returns-clause-width g c)
