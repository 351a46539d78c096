use Rattle.std.proofs.Common.{◌+◌, ◌≡◌, ℕ, arith, map, refl, subst, sym}
use Rattle.std.specs.Option.{IfSome}
use Rattle.fastlanes_column.specs.LeastWidth.{HasHead}
use Rattle.fastlanes_column.proofs.Distances.{head_of_near}
use Rattle.fastlanes_column.proofs.minimum.head_near.Goals as goal

pub returns : goal.returns
returns g c = λ x is.
    let number = g.E.FastLanes.number in
    let numbers = map number c.args.words.now in
    let base = c.base_near-base.result in
    let distances = c.distances_from-distances in
    let low = distances.result.least in
    let high = distances.result.greatest in
    let width = c.width_of_half-width.result in
    let near = (distances.ensures.joined 32).0 (omega arith) in
    let head : HasHead 64 (base + low) width numbers = head_of_near base numbers c.base_near-base.ensures distances.ensures.below near low distances.ensures.least high width
    distances.ensures.greatest c.width_of_half-width.ensures.exact c.width_of_half-width.ensures.fits in
    let there : number c.in_ok-reference.reference ≡ base + low = c.in_ok-reference.ensures _ refl in
    let whole : HasHead g.E.FastLanes.T (number c.in_ok-reference.reference) width numbers =
    subst (λ (t : ℕ). HasHead t (number c.in_ok-reference.reference) width numbers) (sym c.requires.size)
    (subst (λ (r : ℕ). HasHead 64 r width numbers) (sym there) head) in
    subst (λ h. IfSome h (λ f. HasHead g.E.FastLanes.T (number f.reference) f.width numbers)) is whole
