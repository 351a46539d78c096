use Rattle.std.proofs.Common.{refl}
use Rattle.fastlanes_rows.proofs.RowsRead.{read_on, reads_lanes, reads_more}
use Rattle.fastlanes_rows.proofs.sixteen_lanes.RowWordsGroupReaderRow.read.Goals as goal

pub unpack_step-requires-clause-reads : goal.unpack_step-requires-clause-reads
unpack_step-requires-clause-reads g c = reads_lanes _ _ _ _ _ _ _ _ _ c.requires.stands

pub returns-clause-values : goal.returns-clause-values
returns-clause-values g c j within = rw c.requires.stands.same_lane at (c.unpack_step.ensures.digits j within)

pub returns-clause-same : goal.returns-clause-same
returns-clause-same g c = rw c.unpack_step.ensures.taken refl

pub returns-clause-beside : goal.returns-clause-beside
returns-clause-beside g c start beside = read_on _ start _ _ c.unpack_step.ensures.taken beside

pub returns-clause-stands : goal.returns-clause-stands
returns-clause-stands g c = reads_more _ _ _ _ _ _ _ _ _ _ _ c.requires.stands c.unpack_step.ensures.taken c.unpack_step.ensures.carry.carried
