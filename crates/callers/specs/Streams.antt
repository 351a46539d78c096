-- Rows of sixteen lanes whose words come one after another.
use Rattle.std.specs.Prelude.{◌≡◌, ℕ, ◌+◌, ◌-◌, ◌*◌, ◌/◌, ◌%◌, ◌^◌, ◌<◌, List, map, slice_index}
use Rattle.std.specs.List.{range_with_len}
use Rattle.fastlanes.specs.Digits.{row_digit}
use Rattle.fastlanes.specs.Rows.{words_begun}

-- where rows of words of t bits were asked for, `at` gives the words of the last one
abbrev pub IsLastRow : ℕ → ℕ → List ℕ → (ℕ → ℕ) → Type 0
IsLastRow t asked words at = 0 < asked → (j : ℕ) → j < 16 → at j ≡ slice_index words (16 * (asked - 1) + j) % 2 ^ t

-- Where a source of the words of rows of width w stands before this row of digits: it was asked for each row of words that the rows of
-- digits before have bits in, and `at` gives the words of the last one.
abbrev pub StandsBefore : ℕ → ℕ → ℕ → ℕ → List ℕ → (ℕ → ℕ) → Type 0
StandsBefore t w row asked words at = (asked ≡ words_begun t w row) × IsLastRow t asked words at

-- the values are the digits of a row, of width w in words of t bits
abbrev pub AreDigits : ℕ → ℕ → List ℕ → ℕ → List ℕ → Type 0
AreDigits t w words row values = (j : ℕ) → j < 16 → slice_index values j ≡ row_digit t 16 w words j row

-- the words of sixteen lanes from `lane` on, row after row
abbrev pub group_words : ℕ → ℕ → ℕ → List ℕ → List ℕ
group_words lanes w lane p = map (λ i. slice_index p (lanes * (i / 16) + (lane + i % 16))) (range_with_len 0 (16 * w))
