use Rattle.fastlanes_masks.proofs.bitpacking_cmp.compare_row.Goals as goal

pub comparison-requires : goal.comparison-requires
comparison-requires g c = rw c.as_unpacked.ensures (c.requires.callable c.digit_at.result c.digit_at.ensures)

pub returns : goal.returns
returns g c = (c.digit_at.result, c.digit_at.ensures, rw c.as_unpacked.ensures at c.comparison.ensures)
