-- Sums of digits by lanes. A block has 1024 digits of w bits, which are taken by rows of n lanes of t bits each.
use Rattle.std.specs.Prelude.{◌≡◌, ℕ, ◌+◌, ◌-◌, ◌*◌, ◌/◌, ◌%◌, ◌^◌, ◌<◌, ◌≤◌, Bool, nat_eq, nat_le, if◌then◌else◌, List, length, map}
use Rattle.std.specs.List.{range_with_len, sum, sum_by}

-- the sum of what n lanes have
abbrev pub lanes_sum : ℕ → (ℕ → ℕ) → ℕ
lanes_sum n at = sum (map at (range_with_len 0 n))

-- a word of a lane holds the sum of all its digits
abbrev pub words_hold : ℕ → ℕ → ℕ → Bool
words_hold t n w = nat_le (1024 * 2 ^ w) (n * 2 ^ t)

-- lanes add up the parts of digits below so many bits, and apart from these the parts above: whole digits where words hold their
-- sums, or where sums are modulo 2 ^ 64 anyway, else halves of words
abbrev pub cut : ℕ → ℕ → ℕ → ℕ
cut t n w = if nat_eq t 64 then t else (if words_hold t n w then t else t / 2)

-- what the lower part of a digit is below
abbrev pub low_bound : ℕ → ℕ → ℕ → ℕ
low_bound t n w = if words_hold t n w then 2 ^ w else 2 ^ (t / 2)

-- n lanes add up parts of `count` digits that are below `bound`
abbrev pub AddsUp : ℕ → ℕ → ℕ → (ℕ → ℕ) → Type 0
AddsUp n count bound at = (j : ℕ) → j < n → at j * n ≤ count * (bound - 1)

-- lanes have the sums of the parts of digits below the cut and of those above it
pub record IsSummed (t n w : ℕ) (low high : ℕ → ℕ) (taken : List (ℕ × ℕ)) : Type 0 where
  pub total : (lanes_sum n low + 2 ^ cut t n w * lanes_sum n high) % 2 ^ 64 ≡ sum_by (λ a. a.1) taken % 2 ^ 64
  pub low_fits : t < 64 → AddsUp n (length taken) (low_bound t n w) low
  pub high_fits : AddsUp n (length taken) (2 ^ (t / 2)) high
  pub whole : cut t n w ≡ t → (j : ℕ) → j < n → high j ≡ 0
