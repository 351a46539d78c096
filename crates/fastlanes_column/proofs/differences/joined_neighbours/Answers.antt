use Rattle.std.proofs.Common.{◌≡◌, ◌<◌, ◌∙◌, ℕ, ap, arith, length, map, subst, sym}
use Rattle.std.proofs.lemmas.List.{get_or-map}
use Rattle.fastlanes.specs.Frame.{word_difference}
use Rattle.fastlanes_column.specs.Differences.{delta_from, value_before}
use Rattle.fastlanes_column.proofs.Neighbours.{as_wide_deltas, neighbour_delta-at}
use Rattle.fastlanes_column.proofs.WidthBounds.{IsAsWideBelow, as_wide_next, as_wide_one}
use Rattle.fastlanes_column.proofs.differences.joined_neighbours.Goals as goal

pub loop-i-init : goal.loop-i-init
loop-i-init g c =
    let number = g.E.MachineWord.number in
    let block = map number c.args.block.now in
    let some : 0 < length c.args.block.now = omega arith in
    as_wide_one _ (delta_from g.E.MachineWord.T block (value_before (number c.args.before) block))
    (c.minus-joined.ensures.value
    ∙ ap (λ (x : ℕ). word_difference g.E.MachineWord.T x (number c.args.before)) (sym (get_or-map number c.args.block.now 0 c.index-block-0.result 0 some)))

pub loop-i-preserved : goal.loop-i-preserved
loop-i-preserved g c =
    let number = g.E.MachineWord.number in
    let block = map number c.args.block.now in
    as_wide_next _ _ _ c.loop-i.i (delta_from g.E.MachineWord.T block (value_before (number c.args.before) block))
    (c.minus.ensures.value ∙ neighbour_delta-at number g.E.MachineWord.T (number c.args.before) c.args.block.now c.loop-i.i _ _ (omega arith) (omega arith))
    c.or-joined.ensures.value c.loop-i.invariant

pub returns : goal.returns
returns g c =
    let number = g.E.MachineWord.number in
    let block = map number c.args.block.now in
    let all : c.loop-i.i ≡ 1024 = omega arith in
    let before = value_before (number c.args.before) block in
    as_wide_deltas _ _ block before
    (subst (λ (n : ℕ). IsAsWideBelow (number c.loop-i.joined) n (delta_from g.E.MachineWord.T block before)) all c.loop-i.invariant)
