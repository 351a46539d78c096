use Rattle.std.proofs.Common.{◌≡◌, ◌≤◌, ℕ, List, length, sym, ◌∙◌, ◌+◌, ◌^◌, ◌<◌, arith}
use Rattle.std.proofs.lemmas.List.{length-map}
use Rattle.fastlanes_column.specs.Column.{part_start, words_of}
use Rattle.fastlanes_column.specs.Heads.{references, widths}
use Rattle.fastlanes_column.specs.declared.frame.FrameHead.{FrameHead}
use Rattle.fastlanes_column.proofs.HeadsAt.{end_below, next_start, width-le, words-most}
use Rattle.fastlanes_column.proofs.PartWords.{part_start-all, shortest_column}
use Rattle.fastlanes_column.proofs.column.column_len.Goals as goal

pub packed_len-len-requires : goal.packed_len-len-requires
packed_len-len-requires g c = width-le _ _ _ _ c.loop-head-test.true c.head-item.is c.requires.widths

pub overflow_add-len : goal.overflow_add-len
overflow_add-len g c =
    let below : c.loop-head.len + c.packed_len-len.result < 2 ^ 64 =
    end_below _ _ _ _ _ _ _ g.met.E.FastLanes.layout_law c.requires.widths c.requires.count c.loop-head-test.true c.head-item.is
    c.loop-head.invariant c.packed_len-len.ensures
    in
    omega arith

pub loop-head-preserved : goal.loop-head-preserved
loop-head-preserved g c = next_start _ _ _ _ _ _ c.loop-head-test.true c.head-item.is c.loop-head.invariant c.packed_len-len.ensures

-- at the end the words are those of all heads
all_words : {X Y : Type 0} (lanes : ℕ) (heads : List (FrameHead X Y)) (n len : ℕ) → length heads ≤ n → len ≡ part_start lanes (widths heads) n
    → len ≡ words_of lanes (widths heads)
all_words lanes heads n len all here = here ∙ part_start-all lanes (widths heads) n (rw length-map all)

pub returns-clause-most : goal.returns-clause-most
returns-clause-most g c =
    rw (all_words _ _ _ _ c.loop-head-test.false c.loop-head.invariant) (words-most _ _ _ g.met.E.FastLanes.layout_law c.requires.widths)

pub returns-clause-shortest : goal.returns-clause-shortest
returns-clause-shortest g c = λ blocks ws rs as_many others narrowest lie.
    rw (all_words _ _ _ _ c.loop-head-test.false c.loop-head.invariant) (shortest_column _ _ (references g.E.FastLanes.number c.args.heads.now) ws rs blocks (rw length-map (sym as_many)) (others ∙ sym as_many) narrowest lie)
