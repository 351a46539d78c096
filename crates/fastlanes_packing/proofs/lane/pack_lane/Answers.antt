use Rattle.std.proofs.Common.{rules}
use Rattle.fastlanes_packing.proofs.lane.pack_lane.Goals as goal

pub returns-clause-walk : goal.returns-clause-walk
returns-clause-walk g c = search rules

pub returns-clause-none : goal.returns-clause-none
returns-clause-none g c = search rules

pub returns-clause-others : goal.returns-clause-others
returns-clause-others g c = search rules
