use Rattle.fastlanes_packing.proofs.lane_rows.AnyLaneRows.unpack_rows.Goals as goal

pub returns : goal.returns
returns g c = c.at_width.ensures
