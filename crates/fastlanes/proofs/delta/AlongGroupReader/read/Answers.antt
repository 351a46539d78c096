use Rattle.std.proofs.Common.{add-one}
use Rattle.fastlanes.proofs.delta.AlongGroupReader.read.Goals as goal

pub returns-clause-values : goal.returns-clause-values
returns-clause-values g c = (c.step-made.ensures _ _ _ _ c.read-values.ensures.values c.requires.stands.1).0

pub returns-clause-stands : goal.returns-clause-stands
returns-clause-stands g c = (
  c.read-values.ensures.stands,
  λ j within. rw (add-one, c.read-values.ensures.same) ((c.step-made.ensures _ _ _ _ c.read-values.ensures.values c.requires.stands.1).1 j within),
)
