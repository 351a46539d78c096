-- How many rows and lanes a block has, and how many words a digit is read from.
use Rattle.std.proofs.Common.{◌≡◌, ℕ, ◌+◌, ◌*◌, ◌%◌, ◌<◌, ◌≤◌, arith}
use Rattle.std.proofs.lemmas.Bool.Decides.{nat_tests}
use Rattle.fastlanes_base.specs.Element.{IsWordSize}
use Rattle.fastlanes_packing.specs.Reads.{digit_reads}

-- no lane has more rows
pub at_most_64_rows : (t rows : ℕ) → IsWordSize t → rows ≡ t → rows ≤ 64
at_most_64_rows t rows size same = omega arith

-- the digit of a row is read from no word, or from one
pub reads_none : (t w row : ℕ) → w ≡ 0 → digit_reads t w row ≡ 0
reads_none t w row none = rw none

pub reads_word : (t w row : ℕ) → 0 < w → row * w % t + w ≤ t → digit_reads t w row ≡ 1
reads_word t w row wide fits = grind (arith, nat_tests)
