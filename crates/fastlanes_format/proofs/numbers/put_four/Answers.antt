use Rattle.fastlanes_format.proofs.NumberPlaces.{number_of_four}
use Rattle.fastlanes_format.proofs.numbers.put_four.Goals as goal

pub returns : goal.returns
returns c = record {
  number = number_of_four _ _ _ c.ranges.number.fits (rw c.to_le_bytes.ensures at c.put_each.ensures.these);
  before = c.put_each.ensures.before;
  behind = c.put_each.ensures.behind;
}
