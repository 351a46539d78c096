use Rattle.std.proofs.Common.{◌≡◌, ◌<◌, ◌∙◌, ℕ, ap, arith, get_or, length, map, subst, sym}
use Rattle.std.proofs.lemmas.List.{get_or-map}
use Rattle.std.specs.List.{slice_index}
use Rattle.fastlanes.specs.Frame.{word_difference}
use Rattle.fastlanes_column.specs.Differences.{delta_from}
use Rattle.fastlanes_column.proofs.Neighbours.{as_wide_deltas}
use Rattle.fastlanes_column.proofs.WidthBounds.{IsAsWideBelow, as_wide_next, as_wide_nothing}
use Rattle.fastlanes_column.proofs.differences.joined_apart.Goals as goal

pub loop-i-init : goal.loop-i-init
loop-i-init g c = as_wide_nothing _ _ c.zero-joined.ensures

pub loop-i-preserved : goal.loop-i-preserved
loop-i-preserved g c =
    let number = g.E.MachineWord.number in
    let t = g.E.MachineWord.T in
    let i = c.loop-i.i in
    let block = c.args.block.now in
    let before = c.args.before.now in
    let in_block : i < length block = omega arith in
    let in_before : i < length before = omega arith in
    as_wide_next _ _ _ i (delta_from t (map number block) (slice_index (map number before)))
    (c.minus.ensures.value
    ∙ ap (λ (x : ℕ). word_difference t x (number (get_or before i c.index-before-i.result))) (sym (get_or-map number block i c.index-block-i.result 0 in_block))
    ∙ ap (word_difference t (slice_index (map number block) i)) (sym (get_or-map number before i c.index-before-i.result 0 in_before)))
    c.or-joined.ensures.value c.loop-i.invariant

pub returns : goal.returns
returns g c =
    let number = g.E.MachineWord.number in
    let all : c.loop-i.i ≡ 1024 = omega arith in
    let before = slice_index (map number c.args.before.now) in
    as_wide_deltas _ _ (map number c.args.block.now) before
    (subst (λ (n : ℕ). IsAsWideBelow (number c.loop-i.joined) n (delta_from g.E.MachineWord.T (map number c.args.block.now) before)) all c.loop-i.invariant)
