use Rattle.std.proofs.Common.{◌+◌, ◌*◌}
use Rattle.fastlanes_base.proofs.tile.layer_of_4.Goals as goal

pub returns : goal.returns
returns g c rows are j within =
    let e = c.weave-e.ensures (λ s. rows (0 + s * 2)) (λ j h. (are j h).0) (λ j h. (are j h).2) j within in
    let g = c.weave-g.ensures (λ s. rows (1 + s * 2)) (λ j h. (are j h).1) (λ j h. (are j h).3) j within in
    (e.0, e.1, g.0, g.1)
