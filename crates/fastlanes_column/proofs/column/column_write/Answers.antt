use Rattle.std.proofs.Common.{◌≡◌, ℕ, ◌<◌, [], length, map, take, refl, ap, sym, ◌∙◌, arith}
use Rattle.std.proofs.lemmas.List.{get_or-map, length-map, take-map}
use Rattle.fastlanes_column.specs.Heads.{references, widths}
use Rattle.fastlanes_column.specs.Column.{block_at, part_start}
use Rattle.fastlanes_column.proofs.HeadsAt.{end-within, next_start, references-at, width-le, widths-at}
use Rattle.fastlanes_column.proofs.PartWords.{IsWritten, is_written, near_column, near_list, one_of_many, parts-more}
use Rattle.fastlanes_column.proofs.column.column_write.Goals as goal

pub write_part-start-requires : goal.write_part-start-requires
write_part-start-requires g c =
    let inside : c.loop-b.b < length c.args.blocks.now = rw c.requires.blocks c.loop-b-test.true in
    let long : length c.loop-b.output ≡ _ = c.loop-b.auto.output ∙ c.requires.output in (
      one_of_many c.loop-b.b _ _ _ inside c.well_formed.1.0.1,
      (
        width-le _ _ _ _ c.loop-b-test.true c.index-heads-b.is c.requires.widths,
        rw long (end-within _ _ _ _ _ _ c.loop-b-test.true c.index-heads-b.is c.loop-b.invariant.0 refl),
      ),
    )

pub loop-b-preserved : goal.loop-b-preserved
loop-b-preserved g c =
    let number = g.E.FastLanes.number in
    let ws = widths c.args.heads.now in
    let inside : c.loop-b.b < length c.args.blocks.now = rw c.requires.blocks c.loop-b-test.true in
    let block : block_at (map (map number) c.args.blocks.now) c.loop-b.b ≡ map number c.index-blocks-b.result =
    get_or-map (map number) c.args.blocks.now c.loop-b.b c.index-blocks-b.result [] inside ∙ ap (map number) (sym c.index-blocks-b.is)
    in
    let before : take (part_start g.E.FastLanes.LANES ws c.loop-b.b) (map number c.write_part-start.new.output)
    ≡ take (part_start g.E.FastLanes.LANES ws c.loop-b.b) (map number c.loop-b.output) =
    ap (λ (s : ℕ). take s (map number c.write_part-start.new.output)) (sym c.loop-b.invariant.0)
    ∙ take-map number c.loop-b.start c.write_part-start.new.output
    ∙ ap (map number) c.write_part-start.ensures.before
    ∙ sym (take-map number c.loop-b.start c.loop-b.output)
    ∙ ap (λ (s : ℕ). take s (map number c.loop-b.output)) c.loop-b.invariant.0
    in (
      c.write_part-start.ensures.end ∙ next_start _ _ _ _ _ _ c.loop-b-test.true c.index-heads-b.is c.loop-b.invariant.0 refl,
      parts-more g.E.FastLanes.LANES ws (map number c.loop-b.output) (map number c.write_part-start.new.output) c.loop-b.b
          (IsWritten g.E.FastLanes.T g.E.FastLanes.LANES ws (references number c.args.heads.now) (map (map number) c.args.blocks.now))
          (rw length-map c.loop-b-test.true) before c.loop-b.invariant.1
          (is_written _ _ ws (references number c.args.heads.now) (map (map number) c.args.blocks.now) (map number c.write_part-start.new.output) c.loop-b.b _ _ _ _ (widths-at _ _ _ c.loop-b-test.true c.index-heads-b.is) (references-at number _ _ _ c.loop-b-test.true c.index-heads-b.is) block
          c.loop-b.invariant.0 c.write_part-start.ensures.packed c.write_part-start.ensures.comes_back),
    )

pub returns-clause-block_comes_back : goal.returns-clause-block_comes_back
returns-clause-block_comes_back g c = λ b inside.
    let before : b < c.loop-b.b = (let in_heads : b < length c.args.heads.now = rw length-map at inside in omega arith) in
    (c.loop-b.invariant.1 b before).1

pub returns-clause-comes_back : goal.returns-clause-comes_back
returns-clause-comes_back g c = near_column g.E.FastLanes.T g.E.FastLanes.LANES (widths c.args.heads.now) (references g.E.FastLanes.number c.args.heads.now)
    (map (map g.E.FastLanes.number) c.args.blocks.now) (map g.E.FastLanes.number c.loop-b.output) (λ b inside.
    let before : b < c.loop-b.b = (let in_heads : b < length c.args.heads.now = rw length-map at inside in omega arith) in
    (c.loop-b.invariant.1 b before).1)

pub returns-clause-list_comes_back : goal.returns-clause-list_comes_back
returns-clause-list_comes_back g c =
    let number = g.E.FastLanes.number in
    near_list g.E.FastLanes.T g.E.FastLanes.LANES (widths c.args.heads.now) (references number c.args.heads.now) (map (map number) c.args.blocks.now)
    (map number c.loop-b.output)
    (length-map c.args.blocks.now (map number) ∙ c.requires.blocks ∙ sym (length-map c.args.heads.now (λ h. h.width))) (returns-clause-comes_back g c)
