use Rattle.std.proofs.Common.{arith, sym}
use Rattle.std.proofs.lemmas.List.{length-take-le, take_rest}
use Rattle.fastlanes_pages.specs.ColumnValues.{sums_values}
use Rattle.fastlanes_pages.proofs.block.value_of_form.Goals as goal

pub slice_bounds-value_of_sums-end : goal.slice_bounds-value_of_sums-end
slice_bounds-value_of_sums-end g c =
    let whole = rw c.if-differences.true at c.requires.block.whole in
    sym (length-take-le 128 c.args.bytes.now (omega (arith, whole)))

pub value_of_sums-requires-clause-before : goal.value_of_sums-requires-clause-before
value_of_sums-requires-clause-before g c =
    let whole = rw c.if-differences.true at c.requires.block.whole in
    length-take-le 128 c.args.bytes.now (omega (arith, whole))

pub returns-then-differences : goal.returns-then-differences
unfolding sums_values
returns-then-differences g c = rw c.if-differences.true (rw (take_rest c.args.bytes.now 128) at c.value_of_sums.ensures)
