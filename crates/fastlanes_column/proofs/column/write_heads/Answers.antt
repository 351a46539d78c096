use Rattle.std.proofs.Common.{◌≡◌, ◌<◌, [], length, map, ap, subst, sym, ◌∙◌, arith}
use Rattle.std.proofs.lemmas.List.{get_or-map, length-map}
use Rattle.fastlanes_column.specs.Column.{block_at}
use Rattle.fastlanes_column.proofs.WrittenHeads.{Serves, serve_more}
use Rattle.fastlanes_column.proofs.column.write_heads.Goals as goal

pub loop-b-preserved : goal.loop-b-preserved
loop-b-preserved g c =
    let number = g.E.FastLanes.number in
    let block : block_at (map (map number) c.args.blocks.now) c.loop-b.b ≡ map number c.index-blocks-b.result =
    get_or-map (map number) c.args.blocks.now c.loop-b.b c.index-blocks-b.result [] c.loop-b-test.true ∙ ap (map number) (sym c.index-blocks-b.is)
    in
    let inside : c.loop-b.b < length c.loop-b.heads = omega arith in
    serve_more number g.E.FastLanes.T c.loop-b.b c.loop-b.heads c.frame_head.result (map (map number) c.args.blocks.now) inside c.loop-b.invariant
    (subst (Serves g.E.FastLanes.T c.frame_head.result.width (number c.frame_head.result.reference)) (sym block)
    (record { fits = c.frame_head.ensures.fits; near = c.frame_head.ensures.near; narrowest = c.frame_head.ensures.narrowest }))

pub returns-clause-near : goal.returns-clause-near
returns-clause-near g c = λ b inside.
    let in_heads : b < length c.loop-b.heads = rw length-map at inside in
    (c.loop-b.invariant b (omega arith)).near
