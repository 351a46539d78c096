use Rattle.std.proofs.Common.{◌<◌, ap, map, ◌∙◌, zero-add}
use Rattle.std.specs.List.{slice_index}
use Rattle.fastlanes_rows.proofs.sixteen_lanes.row_of_array.Goals as goal

pub returns : goal.returns
returns g c j within =
    let in_row : j < g.V.RowVector.N = rw c.requires within in
    c.load.ensures j in_row ∙ ap (slice_index (map g.E.MachineWord.number c.args.values.now)) (zero-add j)
