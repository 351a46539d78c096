use Rattle.std.proofs.Common.{refl}
use Rattle.fastlanes_base.proofs.element.U16FastLanes.word_add.Goals as goal

pub returns-clause-value : goal.returns-clause-value
returns-clause-value c = refl
