use Rattle.fastlanes_blocks.proofs.Ranges.{greatest_of_digits, least_of_digits}
use Rattle.fastlanes_blocks.proofs.range.range_by_rows.Goals as goal

pub returns-clause-least : goal.returns-clause-least
returns-clause-least g c =
    least_of_digits _ _ _ _ _ _ _ _ g.met.E.FastLanes.layout_law g.met.E.FoldTypes.groups_law c.requires.width c.fold_block.ensures.0 c.ends_of.ensures.least

pub returns-clause-greatest : goal.returns-clause-greatest
returns-clause-greatest g c = greatest_of_digits _ _ _ _ _ _ _ g.met.E.FastLanes.layout_law g.met.E.FoldTypes.groups_law c.fold_block.ensures.1 c.ends_of.ensures.greatest
