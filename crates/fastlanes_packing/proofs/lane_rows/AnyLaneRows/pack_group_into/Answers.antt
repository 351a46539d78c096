use Rattle.std.proofs.Common.{◌∙◌}
use Rattle.fastlanes_packing.proofs.lane_rows.AnyLaneRows.pack_group_into.Goals as goal

pub returns : goal.returns
returns g c = rw (c.width.ensures.value ∙ c.requires.width) at c.pack_group.ensures
