-- Where pages of a column begin, by what is noted of them.
use Rattle.std.specs.Prelude.{◌≡◌, ℕ, ◌*◌, ◌<◌, ◌≤◌, List, slice_index}
use Rattle.fastlanes_format.specs.Format.{count_of, page_place}

-- of each page whose number the stride divides, its place is noted. The stride is the least for which 256 places are enough: up to 256
-- pages it is 1, and all of them are noted.
pub record HasStarts (bytes : List ℕ) (stride : ℕ) (starts : List ℕ) : Type 0 where
  pub some : 0 < stride
  pub room : count_of bytes ≤ 65536 * (256 * stride)
  pub least : (other : ℕ) → count_of bytes ≤ 65536 * (256 * other) → 0 < other → stride ≤ other
  pub all : count_of bytes ≤ 65536 * 256 → stride ≡ 1
  pub each : (k : ℕ) → 65536 * (k * stride) < count_of bytes → slice_index starts k ≡ page_place bytes (k * stride)
