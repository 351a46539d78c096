use Rattle.std.proofs.Common.{◌≡◌, ℕ, map}
use Rattle.std.specs.List.{slice_index}
use Rattle.fastlanes.specs.Rows.{CarriesWords, words_begun}
use Rattle.suite.proofs.tests.lane_rows.assert_digits.Given as goal

abbrev pub invariant-loop-row : goal.invariant-loop-row
invariant-loop-row g l =
    (l.words ≡ record { words = l.packed; width = l.width; lane = 0; count = words_begun 8 l.width l.row })
    × CarriesWords 16 8 128 l.width 0 l.row (map (λ (x : ℕ). x) l.packed) (slice_index (map (λ (x : ℕ). x) l.carry))
