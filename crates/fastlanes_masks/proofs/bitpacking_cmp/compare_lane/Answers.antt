use Rattle.std.proofs.Common.{refl}
use Rattle.fastlanes_masks.proofs.Answering.{gathered_none}
use Rattle.fastlanes_masks.proofs.bitpacking_cmp.compare_lane.Goals as goal

pub walk_rows-requires : goal.walk_rows-requires
walk_rows-requires g c = record { stands = (c.requires.width, c.requires.words, c.requires.lane, c.requires.callable, gathered_none _ _ _ c.zero.ensures) }

pub returns : goal.returns
returns g c = rw (c.walk_rows.ensures.leads _ tt refl) at c.walk_rows.ensures.stands.4
