use Rattle.std.proofs.Common.{◌+◌, ◌*◌, ◌∙◌, ap, arith, take}
use Rattle.std.proofs.lemmas.List.{length-take, take_all}
use Rattle.fastlanes_pages.specs.Masks.{count_where, holds_of}
use Rattle.fastlanes_pages.proofs.ColumnParts.{values_count}
use Rattle.fastlanes_pages.proofs.CountedValues.{count_more, count_most}
use Rattle.fastlanes_pages.specs.ColumnValues.{column_values}
use Rattle.fastlanes_pages.proofs.opened.Opened.count.Goals as goal

pub overflow_add-count : goal.overflow_add-count
overflow_add-count g c =
    let l = c.parts in
    let values = column_values g.E.MachineWord.T g.E.MachineWord.LANES c.args.self.now.bytes.now in
    let test = holds_of c.args.comparison (g.E.MachineWord.number c.args.value) in
    let most = count_most test (take (1024 * (l.number + 1)) values) in
    let part = rw (ap (λ b. b.values) c.block-block.ensures) at c.count.ensures in
    omega (arith, l.invariant.counted, part, count_more test values l.number, most, length-take (1024 * (l.number + 1)) values, values_count g.E.MachineWord.T g.E.MachineWord.LANES c.args.self.now.bytes.now, c.requires.count)

pub parts-preserved : goal.parts-preserved
parts-preserved g c =
    let l = c.parts in
    let values = column_values g.E.MachineWord.T g.E.MachineWord.LANES c.args.self.now.bytes.now in
    let test = holds_of c.args.comparison (g.E.MachineWord.number c.args.value) in
    let part = rw (ap (λ b. b.values) c.block-block.ensures) at c.count.ensures in
    record { counted = omega (arith, l.invariant.counted, part, count_more test values l.number) }

pub returns : goal.returns
returns g c =
    let l = c.parts in
    let values = column_values g.E.MachineWord.T g.E.MachineWord.LANES c.args.self.now.bytes.now in
    let test = holds_of c.args.comparison (g.E.MachineWord.number c.args.value) in
    l.invariant.counted ∙ ap (count_where test) (take_all (1024 * l.number) values (omega (arith, c.blocks-number-end.ensures)))
