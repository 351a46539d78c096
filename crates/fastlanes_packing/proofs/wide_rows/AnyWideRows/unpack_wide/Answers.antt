use Rattle.fastlanes_packing.proofs.wide_rows.AnyWideRows.unpack_wide.Goals as goal

pub returns : goal.returns
returns g c = c.at_width.ensures
