-- The values that the bytes of a column stand for, by their numbers. Elements are numbers below 2 ^ t, and a block has so many lanes.
use Rattle.std.specs.Prelude.{ℕ, ◌*◌, ◌/◌, ◌%◌, ◌==◌, Bool, List, drop, if◌then◌else◌, map, slice_index, take}
use Rattle.std.specs.List.{range_with_len}
use Rattle.fastlanes.specs.Delta.{undeltas}
use Rattle.fastlanes.specs.Digits.{digits}
use Rattle.fastlanes.specs.Frame.{unframed}
use Rattle.fastlanes.specs.Transposition.{untransposed}
use Rattle.fastlanes_format.specs.Format.{block_bytes, count_of, form_of, number_at, page_bytes, reference_of, width_of}

-- the first n words of t bits that bytes are
abbrev pub words_in : ℕ → ℕ → List ℕ → List ℕ
words_in t n bytes = map (λ k. number_at (t / 8) bytes (t / 8 * k)) (range_with_len 0 n)

-- the values of a frame: the digits of its packed words, each with the reference
unfoldable pub frame_values : ℕ → ℕ → ℕ → ℕ → List ℕ → List ℕ
frame_values t lanes width reference bytes = unframed t reference (digits t lanes width (words_in t (lanes * width) bytes))

-- the values of differences: what the digits of packed words add up to from the bases, which stand before these, in the order of neighbours
unfoldable pub sums_values : ℕ → ℕ → ℕ → List ℕ → List ℕ
sums_values t lanes width bytes =
    untransposed (undeltas t lanes (words_in t lanes (take 128 bytes)) (digits t lanes width (words_in t (lanes * width) (drop 128 bytes))))

-- the 1024 values of a block that has differences or is a frame
abbrev pub form_values : ℕ → ℕ → Bool → ℕ → ℕ → List ℕ → List ℕ
form_values t lanes differences width reference bytes =
    (if differences then sums_values t lanes width bytes else frame_values t lanes width reference bytes)

-- those of a block of a page
abbrev pub block_values : ℕ → ℕ → List ℕ → ℕ → List ℕ
block_values t lanes page block =
    form_values t lanes (form_of page block == 1) (width_of page block) (reference_of page block) (block_bytes page block)

-- value number i of a column is in page i / 65536, there in block i % 65536 / 1024, and there at the place i % 1024
abbrev pub column_value : ℕ → ℕ → List ℕ → ℕ → ℕ
column_value t lanes bytes i = slice_index (block_values t lanes (page_bytes bytes (i / 65536)) (i % 65536 / 1024)) (i % 1024)

-- the values of a column
unfoldable pub column_values : ℕ → ℕ → List ℕ → List ℕ
column_values t lanes bytes = map (column_value t lanes bytes) (range_with_len 0 (count_of bytes))
