use Rattle.std.proofs.Common.{◌*◌, ap, ℕ}
use Rattle.fastlanes_base.proofs.element.packed_len.Goals as goal

pub returns : goal.returns
returns g c = ap (λ (n : ℕ). n * c.args.w) c.LANES.ensures
