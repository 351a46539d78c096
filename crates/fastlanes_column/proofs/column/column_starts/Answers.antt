use Rattle.std.proofs.Common.{◌≡◌, ◌≢◌, ◌+◌, ◌^◌, ◌<◌, length, arith, below_more, get_or-set_same, get_or-set_other}
use Rattle.std.proofs.lemmas.List.{length-map}
use Rattle.std.proofs.lemmas.List.FromFn.{fill_by_all}
use Rattle.fastlanes_column.specs.Heads.{widths}
use Rattle.fastlanes_column.specs.Column.{part_start}
use Rattle.fastlanes_column.proofs.HeadsAt.{end_below, next_start, width-le}
use Rattle.fastlanes_column.proofs.column.column_starts.Goals as goal

pub packed_len-start-requires : goal.packed_len-start-requires
packed_len-start-requires g c = width-le _ _ _ _ c.loop-b-test.true c.index-heads-b.is c.requires.widths

pub overflow_add-start : goal.overflow_add-start
overflow_add-start g c =
    let below : c.loop-b.start + c.packed_len-start.result < 2 ^ 64 =
    end_below _ _ _ _ _ _ _ g.met.E.FastLanes.layout_law c.requires.widths c.requires.count c.loop-b-test.true c.index-heads-b.is
    c.loop-b.invariant.0 c.packed_len-start.ensures
    in
    omega arith

pub loop-b-preserved : goal.loop-b-preserved
loop-b-preserved g c = (
  next_start _ _ _ _ _ _ c.loop-b-test.true c.index-heads-b.is c.loop-b.invariant.0 c.packed_len-start.ensures,
  below_more _ _
      (λ k before. let other : k ≢ c.loop-b.b = omega arith in rw get_or-set_other (c.loop-b.invariant.1 k before))
      (let inside : c.loop-b.b < length c.loop-b.starts = omega arith in rw get_or-set_same c.loop-b.invariant.0),
)

pub returns : goal.returns
returns g c =
    let long : length c.loop-b.starts ≡ length (widths c.args.heads.now) = rw length-map (omega arith) in
    fill_by_all (part_start g.E.FastLanes.LANES (widths c.args.heads.now)) c.loop-b.starts _ 0 long
    (λ k inside. let before : k < c.loop-b.b = (let in_heads : k < length c.args.heads.now = rw length-map at inside in omega arith) in c.loop-b.invariant.1 k before)
