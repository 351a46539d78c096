use Rattle.std.proofs.Common.{refl}
use Rattle.fastlanes_rows.proofs.group_walk.walk_group.Goals as goal

pub returns-clause-same : goal.returns-clause-same
returns-clause-same g c = (c.walk_rows.ensures.leads c.args.reader.now c.args.writer.now (refl, (λ r beside. beside), (λ o beside. beside))).0

pub returns-clause-read_beside : goal.returns-clause-read_beside
returns-clause-read_beside g c = (c.walk_rows.ensures.leads c.args.reader.now c.args.writer.now (refl, (λ r beside. beside), (λ o beside. beside))).1

pub returns-clause-beside : goal.returns-clause-beside
returns-clause-beside g c = (c.walk_rows.ensures.leads c.args.reader.now c.args.writer.now (refl, (λ r beside. beside), (λ o beside. beside))).2
