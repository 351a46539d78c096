use Rattle.std.proofs.Common.{◌≡◌, ℕ, map, arith, refl, rules}
use Rattle.std.proofs.lemmas.List.FromFn.{length-map-range_with_len}
use Rattle.fastlanes.specs.Kernels.{lane_digit}
use Rattle.fastlanes.proofs.Walks.{counted_down, counted_out}
use Rattle.callers.proofs.lane.calls_left_unpacking.Goals as goal

pub unpack_lane-requires-clause-allowed : goal.unpack_lane-requires-clause-allowed
unpack_lane-requires-clause-allowed g c = record {
  at = λ row t in_rows run.
      let argument = lane_digit g.E.FastLanes.T g.E.FastLanes.LANES c.args.width (map g.E.FastLanes.number c.args.packed.now) c.args.lane in
      let so_far = counted_down _ (λ (b : ℕ) s. Unit {0}) 0 (λ s. s.0.now) (λ s u a kept step. (tt, search rules)) _ t _ tt run in
      λ d is. omega (arith, so_far.1, length-map-range_with_len argument 0 row, in_rows);
}

pub returns : goal.returns
returns g c =
    let argument = lane_digit g.E.FastLanes.T g.E.FastLanes.LANES c.args.width (map g.E.FastLanes.number c.args.packed.now) c.args.lane in
    let out = counted_out _ (λ name s. s.0.ghost_name ≡ name) _ (λ s. s.0.now) (λ s u a same step. (search rules, search rules)) _ _ argument _ refl c.T-left.ensures c.unpack_lane.ensures in
    search (rules, out.0, out.1)
