use Rattle.std.proofs.Common.{◌≡◌, ◌<◌, ℕ, List, arith, get_or, length, map, subst, sym}
use Rattle.std.proofs.lemmas.List.{get_or-map}
use Rattle.std.specs.List.{slice_index}
use Rattle.fastlanes.specs.Delta.{deltas}
use Rattle.fastlanes.specs.Transposition.{transposed}
use Rattle.fastlanes_column.specs.Differences.{lane_bases, neighbour_deltas}
use Rattle.fastlanes_column.specs.LeastWidth.{IsLeastWidth}
use Rattle.fastlanes_pages.proofs.writing.differences_width.Goals as goal

pub returns : goal.returns
returns g c =
    let t = g.E.FastLanes.T in
    let lanes = g.E.FastLanes.LANES in
    let number = g.E.FastLanes.number in
    let block = map number c.args.block.now in
    let width = c.delta_width.result in
    let some : 0 < length c.args.block.now = omega arith in
    let first : number (get_or c.args.block.now 0 c.index-block-0.result) ≡ slice_index block 0 =
    sym (get_or-map number c.args.block.now 0 c.index-block-0.result 0 some)
    in
    record {
      lanes = subst (λ (n : ℕ). IsLeastWidth width (deltas t lanes (lane_bases lanes n block) (transposed block))) first c.delta_width.ensures.lanes;
      neighbours = subst (λ (n : ℕ). IsLeastWidth width (neighbour_deltas t n block)) first c.delta_width.ensures.width;
      fits = c.delta_width.ensures.fits;
    }
