use Rattle.std.proofs.Common.{◌≡◌, ◌<◌, ◌+◌, ◌%◌, ◌^◌, ◌∙◌, ℕ, ap, map, refl, rules, subst, sum_by, sym, zero-add}
use Rattle.std.proofs.lemmas.Nat.{pow_pos}
use Rattle.fastlanes.proofs.Walks.{sum_lane_digits, summed}
use Rattle.fastlanes.specs.Kernels.{lane_digits}
use Rattle.callers.proofs.lane.lane_sum_wrapping.Goals as goal

pub returns : goal.returns
returns g c =
    let number = g.E.FastLanes.number in
    let t = g.E.FastLanes.T in
    let lanes = g.E.FastLanes.LANES in
    let p = map number c.args.packed.now in
    let none : number c.zero-sum.result ≡ 0 = ap number c.zero-sum.ensures ∙ g.met.E.FastLanes.zero_number_law in
    let below : number c.zero-sum.result < 2 ^ t = subst (λ (n : ℕ). n < 2 ^ t) (sym none) (pow_pos t) in
    let sums = summed _ (λ name s. s.0.ghost_name ≡ name) _ (λ s. number s.0.now) (λ (a : ℕ × ℕ). a.1) t
    (λ s u a same step.
    let adds : number u.0.now ≡ (number s.0.now + number step.2.0) % 2 ^ t = search rules in
    (search rules, adds ∙ ap (λ x. (number s.0.now + x) % 2 ^ t) step.2.1)) _ _ _ refl below c.unpack_lane.ensures
    in
    let digits = sum_by (λ (a : ℕ × ℕ). a.1) (lane_digits t lanes c.args.width p c.args.lane) in
    let total = sums.1 ∙ ap (λ n. (n + digits) % 2 ^ t) none
    ∙ ap (λ n. n % 2 ^ t) (zero-add digits ∙ sum_lane_digits (λ x. x) t lanes c.args.width p c.args.lane)
    in
    let name = sums.0 in
    search rules
