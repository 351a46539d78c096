use Rattle.std.proofs.Common.{◌+◌, ◌*◌}
use Rattle.fastlanes_base.proofs.tile.layer_of_8.Goals as goal

pub returns : goal.returns
returns g c rows are =
    let i = c.weave-i.ensures (λ s. rows (0 + s * 4)) (λ j h. (are.0 j h).0) (λ j h. (are.1 j h).0) in
    let k = c.weave-k.ensures (λ s. rows (1 + s * 4)) (λ j h. (are.0 j h).1) (λ j h. (are.1 j h).1) in
    let m = c.weave-m.ensures (λ s. rows (2 + s * 4)) (λ j h. (are.0 j h).2) (λ j h. (are.1 j h).2) in
    let o = c.weave-o.ensures (λ s. rows (3 + s * 4)) (λ j h. (are.0 j h).3) (λ j h. (are.1 j h).3) in
    (λ j h. ((i j h).0, (i j h).1, (k j h).0, (k j h).1), λ j h. ((m j h).0, (m j h).1, (o j h).0, (o j h).1))
