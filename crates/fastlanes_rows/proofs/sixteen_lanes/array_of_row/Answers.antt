use Rattle.std.proofs.Common.{◌<◌}
use Rattle.fastlanes_rows.proofs.sixteen_lanes.array_of_row.Goals as goal

pub returns-clause-each : goal.returns-clause-each
returns-clause-each g c j within =
    let in_row : j < g.V.RowVector.N = rw c.requires within in
    c.put.ensures.each j in_row
