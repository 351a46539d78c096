use Rattle.std.proofs.Common.{◌≡◌, ◌∙◌, ◌+◌, ℕ, cond, nat_lt, map, arith, refl, rules, zero-add}
use Rattle.fastlanes.specs.Kernels.{lane_digit}
use Rattle.fastlanes.proofs.Walks.{count_each_below, count_lane_digits, counted}
use Rattle.callers.proofs.lane.count_above.Goals as goal

pub unpack_lane-requires-clause-allowed : goal.unpack_lane-requires-clause-allowed
unpack_lane-requires-clause-allowed g c = record {
  at = λ row t in_rows run.
      let is_above = λ (a : ℕ × ℕ). nat_lt (g.E.FastLanes.number c.args.bound) a.1 in
      let so_far = counted _ (λ (b : ℕ) s. s.0.now ≡ c.args.bound) 0 (λ s. s.1.now) is_above
      (λ s u a same step.
      let counts : u.1.now ≡ s.1.now + cond (nat_lt (g.E.FastLanes.number s.0.now) (g.E.FastLanes.number step.2.0)) 1 0 = search rules in
      (search rules, cc step.2.1)) _ t _ refl run
      in
      let few = count_each_below is_above (lane_digit g.E.FastLanes.T g.E.FastLanes.LANES c.args.width (map g.E.FastLanes.number c.args.packed.now) c.args.lane) row in
      λ d is. omega (arith, so_far.1, few, g.met.E.FastLanes.bits_law);
}

pub returns : goal.returns
returns g c =
    let counts = counted _ (λ name s. (s.0.now ≡ c.args.bound) × (s.1.ghost_name ≡ name)) _ (λ s. s.1.now) (λ (a : ℕ × ℕ). nat_lt (g.E.FastLanes.number c.args.bound) a.1)
    (λ s u a same step.
    let counts : u.1.now ≡ s.1.now + cond (nat_lt (g.E.FastLanes.number s.0.now) (g.E.FastLanes.number step.2.0)) 1 0 = search rules in
    ((search rules, search rules), cc step.2.1)) _ _ _ (refl, refl) c.unpack_lane.ensures
    in
    let total = counts.1 ∙ zero-add _ ∙ count_lane_digits (nat_lt (g.E.FastLanes.number c.args.bound)) g.E.FastLanes.T g.E.FastLanes.LANES c.args.width (map g.E.FastLanes.number c.args.packed.now) c.args.lane in
    let name = counts.0.1 in
    search rules
