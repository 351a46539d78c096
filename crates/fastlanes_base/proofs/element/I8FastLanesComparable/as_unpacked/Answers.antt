use Rattle.std.proofs.Math.Facts.{sfits_to_z, to_z-of_z}
use Rattle.fastlanes_base.proofs.element.I8FastLanesComparable.as_unpacked.Goals as goal

pub returns : goal.returns
returns c = rw c.cast_signed.ensures (to_z-of_z (sfits_to_z c.ranges.inner))
