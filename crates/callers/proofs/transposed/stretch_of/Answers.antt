use Rattle.std.proofs.Common.{arith}
use Rattle.std.proofs.lemmas.Nat.{div-add-mod'}
use Rattle.fastlanes.specs.Order.{transposed_index}
use Rattle.fastlanes.proofs.Callers.{neighbours_from_a_multiple}
use Rattle.callers.proofs.transposed.stretch_of.Goals as goal

pub returns : goal.returns
returns g c =
    let whole = neighbours_from_a_multiple _ _ c.args.lane g.met.E.FastLanes.layout_law c.requires in
    rw (c.transpose.ensures, c.T.ensures) (omega (arith, whole, div-add-mod' (transposed_index c.args.lane) g.E.FastLanes.T))
