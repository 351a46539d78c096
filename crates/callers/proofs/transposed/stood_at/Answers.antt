use Rattle.std.proofs.Common.{◌+◌, ℕ, ap, sym, ◌∙◌}
use Rattle.fastlanes.proofs.Callers.{neighbours_of_a_lane}
use Rattle.callers.proofs.transposed.stood_at.Goals as goal

pub returns : goal.returns
returns g c =
    ap (λ (n : ℕ). n + c.args.row) c.transpose.ensures
    ∙ sym (neighbours_of_a_lane _ _ c.args.row c.args.lane g.met.E.FastLanes.layout_law c.requires.row c.requires.lane)
