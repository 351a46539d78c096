use Rattle.std.proofs.Common.{◌≡◌, ◌<◌, [], length, map, refl, ◌∙◌, arith}
use Rattle.std.proofs.lemmas.List.{length-map}
use Rattle.std.proofs.lemmas.List.FromFn.{fill_by_all}
use Rattle.fastlanes_column.specs.Heads.{references, widths}
use Rattle.fastlanes_column.specs.Column.{held_block}
use Rattle.fastlanes_column.proofs.HeadsAt.{end-within, next_start, references-at, width-le, widths-at}
use Rattle.fastlanes_column.proofs.PartWords.{held_block-read, one_of_many}
use Rattle.fastlanes_column.proofs.Written.{written_more}
use Rattle.fastlanes_column.proofs.column.column_read.Goals as goal

pub read_part-start-requires : goal.read_part-start-requires
read_part-start-requires g c =
    let inside : c.loop-b.b < length c.args.output.now = omega arith in (
      one_of_many c.loop-b.b _ _ _ inside c.well_formed.1.1.0.1,
      (
        width-le _ _ _ _ c.loop-b-test.true c.index-heads-b.is c.requires.widths,
        rw c.requires.input (end-within _ _ _ _ _ _ c.loop-b-test.true c.index-heads-b.is c.loop-b.invariant.0 refl),
      ),
    )

pub loop-b-preserved : goal.loop-b-preserved
loop-b-preserved g c =
    let number = g.E.FastLanes.number in
    let inside : c.loop-b.b < length c.loop-b.output = omega arith in (
      c.read_part-start.ensures.end ∙ next_start _ _ _ _ _ _ c.loop-b-test.true c.index-heads-b.is c.loop-b.invariant.0 refl,
      written_more (map number) c.loop-b.output c.loop-b.b _ []
          (held_block g.E.FastLanes.T g.E.FastLanes.LANES (widths c.args.heads.now) (references number c.args.heads.now) (map number c.args.input.now))
          inside c.loop-b.invariant.1
          (held_block-read g.E.FastLanes.T g.E.FastLanes.LANES (widths c.args.heads.now) (references number c.args.heads.now)
          (map number c.args.input.now) _ c.loop-b.b _ _ _ (widths-at _ _ _ c.loop-b-test.true c.index-heads-b.is)
          (references-at number _ _ _ c.loop-b-test.true c.index-heads-b.is) c.loop-b.invariant.0 c.read_part-start.ensures.block),
    )

pub returns : goal.returns
returns g c =
    let number = g.E.FastLanes.number in
    let long : length (map (map number) c.loop-b.output) ≡ length (widths c.args.heads.now) = rw length-map (rw length-map (omega arith)) in
    fill_by_all (held_block g.E.FastLanes.T g.E.FastLanes.LANES (widths c.args.heads.now) (references number c.args.heads.now) (map number c.args.input.now))
    (map (map number) c.loop-b.output) _ [] long
    (λ k inside. let before : k < c.loop-b.b = (let in_heads : k < length c.args.heads.now = rw length-map at inside in omega arith) in c.loop-b.invariant.1 k before)
