use Rattle.std.proofs.Common.{◌∙◌, ap, arith, sym}
use Rattle.std.proofs.lemmas.List.{length-take-le}
use Rattle.fastlanes_pages.proofs.FormBounds.{bases_are}
use Rattle.fastlanes_pages.specs.Heads.{frame_greatest, frame_least, sums_greatest, sums_least}
use Rattle.fastlanes_pages.proofs.block.bounds_of_form.Goals as goal

pub slice_bounds-bounds_of_sums-end : goal.slice_bounds-bounds_of_sums-end
slice_bounds-bounds_of_sums-end g c =
    let whole = rw c.if-differences.true at c.requires.whole in
    sym (length-take-le 128 c.args.bytes.now (omega (arith, whole)))

pub bounds_of_sums-requires-clause-before : goal.bounds_of_sums-requires-clause-before
bounds_of_sums-requires-clause-before g c =
    let whole = rw c.if-differences.true at c.requires.whole in
    length-take-le 128 c.args.bytes.now (omega (arith, whole))

pub returns-then-differences-clause-least : goal.returns-then-differences-clause-least
returns-then-differences-clause-least g c =
    let t = g.E.MachineWord.T in
    rw c.if-differences.true
    (c.bounds_of_sums.ensures.least ∙ ap (sums_least t c.args.width) (bases_are t g.E.MachineWord.LANES g.met.E.MachineWord.layout_law c.args.bytes.now))

pub returns-then-differences-clause-greatest : goal.returns-then-differences-clause-greatest
returns-then-differences-clause-greatest g c =
    let t = g.E.MachineWord.T in
    rw c.if-differences.true
    (c.bounds_of_sums.ensures.greatest ∙ ap (sums_greatest t c.args.width) (bases_are t g.E.MachineWord.LANES g.met.E.MachineWord.layout_law c.args.bytes.now))

pub returns-else-differences-clause-least : goal.returns-else-differences-clause-least
returns-else-differences-clause-least g c =
    rw c.if-differences.false (c.bounds_of_frame.ensures.least ∙ ap (frame_least g.E.MachineWord.T c.args.width) c.of_number.ensures)

pub returns-else-differences-clause-greatest : goal.returns-else-differences-clause-greatest
returns-else-differences-clause-greatest g c =
    rw c.if-differences.false (c.bounds_of_frame.ensures.greatest ∙ ap (frame_greatest g.E.MachineWord.T c.args.width) c.of_number.ensures)
