use Rattle.std.proofs.Common.{ap, ◌∙◌}
use Rattle.fastlanes.specs.Packing.{low_bits}
use Rattle.fastlanes_column.proofs.Neighbours.{neighbours_come_back}
use Rattle.fastlanes_column.proofs.differences.delta_write.Goals as goal

pub returns-clause-comes_back : goal.returns-clause-comes_back
returns-clause-comes_back g c =
    neighbours_come_back _ _ _ _ _ _ c.neighbour_differences.ensures.back
    (c.pack_deltas.ensures.digits ∙ ap (low_bits c.args.width) c.neighbour_differences.ensures.differences)
    (c.neighbour_differences.ensures.comes_back c.args.width c.requires.width)

pub returns-clause-packed : goal.returns-clause-packed
returns-clause-packed g c = rw c.neighbour_differences.ensures.differences at c.pack_deltas.ensures.packed
