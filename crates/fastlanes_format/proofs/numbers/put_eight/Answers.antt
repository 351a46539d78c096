use Rattle.fastlanes_format.proofs.NumberPlaces.{number_of_eight}
use Rattle.fastlanes_format.proofs.numbers.put_eight.Goals as goal

pub returns : goal.returns
returns c = record {
  number = number_of_eight _ _ _ c.ranges.number.fits (rw c.to_le_bytes.ensures at c.put_each.ensures.these);
  before = c.put_each.ensures.before;
  behind = c.put_each.ensures.behind;
}
