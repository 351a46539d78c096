-- A block beside a reference. Elements and references are numbers below 2 ^ t, and v is the list of a block's.
use Rattle.std.specs.Prelude.{◌≡◌, ◌↔◌, ℕ, ◌+◌, ◌-◌, ◌%◌, ◌^◌, ◌<◌, All, List, map, slice_index}
use Rattle.fastlanes_base.specs.Digits.{IsPacked, digit, digits}
use Rattle.fastlanes_packing.specs.Packing.{low_bits}

-- the sum of two numbers, modulo 2 ^ t
abbrev pub word_sum : ℕ → ℕ → ℕ → ℕ
word_sum t x y = (x + y) % 2 ^ t

-- the difference of two numbers, modulo 2 ^ t
abbrev pub word_difference : ℕ → ℕ → ℕ → ℕ
word_difference t x y = (x + (2 ^ t - y)) % 2 ^ t

-- each element as its difference from the reference
unfoldable pub framed : ℕ → ℕ → List ℕ → List ℕ
framed t reference v = map (λ x. word_difference t x reference) v

-- each element as its sum with the reference
unfoldable pub unframed : ℕ → ℕ → List ℕ → List ℕ
unframed t reference v = map (λ x. word_sum t x reference) v

-- p is a block that was packed as its differences from the reference: an element is the sum of its digit and the
-- reference exactly where its difference is below 2 ^ w
abbrev pub NearOnesComeBack : ℕ → ℕ → ℕ → ℕ → List ℕ → List ℕ → Type 0
NearOnesComeBack t lanes w reference v p = (i : ℕ) → i < 1024
    → (word_sum t (digit t lanes w p i) reference ≡ slice_index v i) ↔ (word_difference t (slice_index v i) reference < 2 ^ w)

-- and the whole block is the sums of all digits and the reference exactly where each difference is below 2 ^ w
abbrev pub NearBlockComesBack : ℕ → ℕ → ℕ → ℕ → List ℕ → List ℕ → Type 0
NearBlockComesBack t lanes w reference v p =
    (unframed t reference (digits t lanes w p) ≡ v) ↔ All (λ x. word_difference t x reference < 2 ^ w) v

-- the words are the elements' differences from the reference, packed
pub record FramesBlock (t lanes w reference : ℕ) (v p : List ℕ) : Type 0 where
  pub packed : IsPacked t lanes w (framed t reference v) p
  pub digits : digits t lanes w p ≡ low_bits w (framed t reference v)
  pub places : (i : ℕ) → i < 1024 → digit t lanes w p i ≡ word_difference t (slice_index v i) reference % 2 ^ w
  pub comes_back : NearOnesComeBack t lanes w reference v p
  pub block_comes_back : NearBlockComesBack t lanes w reference v p

-- the sum of the value that `at` gives for a row of a lane, and the reference
abbrev pub unframed_row : ℕ → ℕ → (ℕ → ℕ → ℕ) → ℕ → ℕ → ℕ
unframed_row t reference at lane row = word_sum t (at lane row) reference

-- the difference of a lane and a row from the reference
abbrev pub framed_row : ℕ → ℕ → (ℕ → ℕ → ℕ) → ℕ → ℕ → ℕ
framed_row t reference at lane row = word_difference t (at lane row) reference
