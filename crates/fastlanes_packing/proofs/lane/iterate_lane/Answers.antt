use Rattle.std.proofs.Common.{refl}
use Rattle.fastlanes_packing.proofs.Walking.{may_begin}
use Rattle.fastlanes_packing.proofs.lane.iterate_lane.Goals as goal

pub walk_rows-requires : goal.walk_rows-requires
walk_rows-requires g c = record { stands = (c.requires.lane, may_begin _ _ _ _ _ c.requires.allowed) }

pub returns : goal.returns
returns g c = c.walk_rows.ensures.leads _ c.args.kernel.now refl
