use Rattle.std.proofs.Common.{◌≡◌, ℕ, arith, refl, rules}
use Rattle.std.proofs.lemmas.List.FromFn.{length-map-range_with_len}
use Rattle.fastlanes.specs.Kernels.{lane_place}
use Rattle.fastlanes.proofs.Walks.{counted_down, counted_out}
use Rattle.callers.proofs.lane.calls_left_walking.Goals as goal

pub iterate_lane-requires-clause-allowed : goal.iterate_lane-requires-clause-allowed
iterate_lane-requires-clause-allowed g c = record {
  at = λ row t in_rows run.
      let argument = lane_place c.args.lane in
      let so_far = counted_down _ (λ (b : ℕ) s. Unit {0}) 0 (λ s. s.0.now) (λ s u a kept step. (tt, search rules)) _ t _ tt run in
      omega (arith, so_far.1, length-map-range_with_len argument 0 row, in_rows);
}

pub returns : goal.returns
returns g c =
    let argument = lane_place c.args.lane in
    let out = counted_out _ (λ name s. s.0.ghost_name ≡ name) _ (λ s. s.0.now) (λ s u a same step. (search rules, search rules)) _ _ argument _ refl c.T-left.ensures c.iterate_lane.ensures in
    search (rules, out.0, out.1)
