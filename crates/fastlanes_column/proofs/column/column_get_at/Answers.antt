use Rattle.std.proofs.Common.{◌≡◌, ◌/◌, ◌<◌, get_or, length, refl, arith}
use Rattle.std.proofs.lemmas.List.{length-map}
use Rattle.fastlanes_column.specs.Heads.{widths}
use Rattle.fastlanes_column.specs.Column.{part_start}
use Rattle.fastlanes_column.proofs.HeadsAt.{end-within, references-at, width-le, widths-at}
use Rattle.fastlanes_column.proofs.PartWords.{held_value-read, length-part_starts, part_starts-at}
use Rattle.fastlanes_column.proofs.column.column_get_at.Goals as goal

pub bounds-starts-i : goal.bounds-starts-i
bounds-starts-i g c =
    let inside : c.args.i / 1024 < length c.args.heads.now = omega arith in
    rw (c.requires.starts, length-part_starts g.E.FastLanes.LANES (widths c.args.heads.now)) (rw length-map inside)

pub value_at-requires-clause-width : goal.value_at-requires-clause-width
value_at-requires-clause-width g c =
    width-le _ _ _ _ (omega arith) c.index-heads-i.is c.requires.widths

pub value_at-requires-clause-words : goal.value_at-requires-clause-words
value_at-requires-clause-words g c =
    let inside : c.args.i / 1024 < length c.args.heads.now = omega arith in
    let here : get_or c.args.starts.now (c.args.i / 1024) 0 ≡ part_start g.E.FastLanes.LANES (widths c.args.heads.now) (c.args.i / 1024) =
    part_starts-at _ _ _ _ (rw length-map inside) c.requires.starts in
    rw c.requires.input (end-within _ _ _ _ _ _ inside c.index-heads-i.is here refl)

pub returns : goal.returns
returns g c =
    let inside : c.args.i / 1024 < length c.args.heads.now = omega arith in
    let here : get_or c.args.starts.now (c.args.i / 1024) 0 ≡ part_start g.E.FastLanes.LANES (widths c.args.heads.now) (c.args.i / 1024) =
    part_starts-at _ _ _ _ (rw length-map inside) c.requires.starts in
    held_value-read _ _ _ _ _ _ _ _ _ _ (widths-at _ _ _ inside c.index-heads-i.is)
    (references-at g.E.FastLanes.number _ _ _ inside c.index-heads-i.is) here c.value_at.ensures
