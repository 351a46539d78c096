use Rattle.std.proofs.Common.{◌∙◌}
use Rattle.fastlanes_packing.proofs.lane_rows.AnyLaneRows.unpack_group_from.Goals as goal

pub returns : goal.returns
returns g c =
    let same = c.width.ensures.value ∙ c.requires.width in
    record { digits = rw same at c.unpack_group.ensures.digits; taken = rw same at c.unpack_group.ensures.taken }
