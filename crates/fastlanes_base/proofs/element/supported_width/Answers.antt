use Rattle.std.proofs.lemmas.Bool.{le-leb, leb-true}
use Rattle.fastlanes_base.proofs.element.supported_width.Goals as goal

pub returns : goal.returns
returns g c = rw c.T.ensures (leb-true _ _, le-leb _ _)
