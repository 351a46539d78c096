use Rattle.std.proofs.Common.{◌≡◌, ◌/◌, ◌<◌, length, refl, ap, ◌∙◌, arith}
use Rattle.fastlanes_column.specs.Heads.{widths}
use Rattle.fastlanes_column.specs.Column.{part_start, words_of}
use Rattle.fastlanes_column.proofs.HeadsAt.{end-within, few-take, references-at, width-le, widths-at, widths-take}
use Rattle.fastlanes_column.proofs.PartWords.{held_value-read}
use Rattle.fastlanes_column.proofs.column.column_get.Goals as goal

pub column_len-start-requires-clause-widths : goal.column_len-start-requires-clause-widths
column_len-start-requires-clause-widths g c = few-take g.E.FastLanes.T c.args.heads.now (c.args.i / 1024) c.requires.widths

pub value_at-requires-clause-width : goal.value_at-requires-clause-width
value_at-requires-clause-width g c =
    width-le _ _ _ _ (omega arith) c.index-heads-block.is c.requires.widths

pub value_at-requires-clause-words : goal.value_at-requires-clause-words
value_at-requires-clause-words g c =
    let here : c.column_len-start.result ≡ part_start g.E.FastLanes.LANES (widths c.args.heads.now) (c.args.i / 1024) =
    c.column_len-start.ensures.value ∙ ap (words_of g.E.FastLanes.LANES) (widths-take c.args.heads.now (c.args.i / 1024)) in
    let inside : c.args.i / 1024 < length c.args.heads.now = omega arith in
    rw c.requires.input (end-within _ _ _ _ _ _ inside c.index-heads-block.is here refl)

pub returns : goal.returns
returns g c =
    let here : c.column_len-start.result ≡ part_start g.E.FastLanes.LANES (widths c.args.heads.now) (c.args.i / 1024) =
    c.column_len-start.ensures.value ∙ ap (words_of g.E.FastLanes.LANES) (widths-take c.args.heads.now (c.args.i / 1024)) in
    let inside : c.args.i / 1024 < length c.args.heads.now = omega arith in
    held_value-read _ _ _ _ _ _ _ _ _ _ (widths-at _ _ _ inside c.index-heads-block.is)
    (references-at g.E.FastLanes.number _ _ _ inside c.index-heads-block.is) here c.value_at.ensures
