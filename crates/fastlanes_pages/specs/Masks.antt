-- Comparisons of the values of columns, as masks and as counts.
use Rattle.std.specs.Prelude.{◌≡◌, ℕ, ◌*◌, ◌<◌, ◌≤◌, Bool, List, if◌then◌else◌, length, pos, slice_index, sum_by}
use Rattle.fastlanes.specs.Bits.{block_bit}
use Rattle.fastlanes_blocks.specs.Comparisons.{holds}
use Rattle.fastlanes_blocks.specs.declared.filters.Comparison.{Comparison}

-- whether a comparison with a value holds of x
unfoldable pub holds_of : Comparison → ℕ → ℕ → Bool
holds_of comparison value x = holds comparison (pos x) (pos value)

-- bit i of a mask is 1 where the test holds of value i, and it has no others
pub record IsMask (test : ℕ → Bool) (values mask : List ℕ) : Type 0 where
  pub room : length values ≤ 64 * length mask
  pub each : (i : ℕ) → i < length values → block_bit mask i ≡ (if test (slice_index values i) then 1 else 0)
  pub others : (i : ℕ) → length values ≤ i → block_bit mask i ≡ 0

-- of how many values the test holds
abbrev pub count_where : (ℕ → Bool) → List ℕ → ℕ
count_where test values = sum_by (λ x. if test x then 1 else 0) values
