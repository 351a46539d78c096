use Rattle.fastlanes_blocks.proofs.Ranges.{greatest_more, least_more}
use Rattle.fastlanes_blocks.proofs.range.RangeRowKernel.take.Goals as goal

pub returns : goal.returns
returns g c = record {
  took = λ before held room below. (least_more _ _ _ _ _ _ before c.lesser-self.ensures held.0, greatest_more _ _ _ _ _ before c.greater-self.ensures held.1);
}
