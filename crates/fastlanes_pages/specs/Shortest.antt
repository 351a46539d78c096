-- The differences of a block's neighbours, how a block is written, and how long pages are at most.
use Rattle.std.specs.Prelude.{◌≡◌, ℕ, ◌+◌, ◌-◌, ◌*◌, ◌/◌, ◌^◌, ◌<◌, ◌≤◌, ◌++◌, All, Bool, List, false, length, replicate, slice_index, take, true}
use Rattle.fastlanes.specs.Delta.{deltas}
use Rattle.fastlanes.specs.Frame.{word_difference}
use Rattle.fastlanes.specs.Transposition.{transposed}
use Rattle.fastlanes_column.specs.Differences.{lane_bases, neighbour_deltas}
use Rattle.fastlanes_column.specs.LeastWidth.{IsLeastOf, LieAbove}
use Rattle.fastlanes_format.specs.Format.{block_bytes, block_len, blocks_of, form_of, reference_of, width_of}
use Rattle.fastlanes_pages.specs.ColumnValues.{frame_values, words_in}
use Rattle.fastlanes_pages.specs.Values.{block_part}

-- the bases of a block, before whose first value stands that value itself
abbrev pub own_bases : ℕ → List ℕ → List ℕ
own_bases lanes values = lane_bases lanes (slice_index values 0) values

-- the differences along its lanes
abbrev pub lane_deltas : ℕ → ℕ → List ℕ → List ℕ
lane_deltas t lanes values = deltas t lanes (own_bases lanes values) (transposed values)

-- the same, in the order of neighbours
abbrev pub own_deltas : ℕ → List ℕ → List ℕ
own_deltas t values = neighbour_deltas t (slice_index values 0) values

-- the values fit a form of a block: what it keeps of each, the difference of neighbours or that from the reference, has so many bits
pub record FitsForm (t lanes : ℕ) (differences : Bool) (width reference : ℕ) (values : List ℕ) : Type 0 where
  pub most : width ≤ t
  pub frame : differences ≡ false → All (λ x. word_difference t x reference < 2 ^ width) values
  pub sums : differences ≡ true → All (λ x. x < 2 ^ width) (lane_deltas t lanes values)
  pub no_reference : differences ≡ true → reference ≡ 0

-- how the 1024 values of a block are written: as the shorter of the FOR block at their minimum and, unless it has to be a FOR block, the
-- delta block of adjacent values; if both are equally long, as the FOR block. Each lane but the first of a delta block begins behind the
-- value before it.
pub record IsShortest (t : ℕ) (frames_only : Bool) (page : List ℕ) (block : ℕ) (values : List ℕ) : Type 0 where
  pub only : frames_only ≡ true → form_of page block ≡ 0
  pub frame : (reference w : ℕ) → LieAbove reference w values → block_len page block ≤ 128 * w
  pub differences : frames_only ≡ false → (w : ℕ) → All (λ x. x < 2 ^ w) (own_deltas t values) → block_len page block ≤ 128 * (1 + w)
  pub tie : form_of page block ≡ 1 → (reference w : ℕ) → LieAbove reference w values → block_len page block < 128 * w
  pub minimum : form_of page block ≡ 0 → IsLeastOf (reference_of page block) values
  pub near : form_of page block ≡ 0 → LieAbove (reference_of page block) (width_of page block) values
  pub padded : form_of page block ≡ 0
      → frame_values t (1024 / t) (width_of page block) (reference_of page block) (block_bytes page block) ≡ values
  pub bases : form_of page block ≡ 1 → (lane : ℕ) → 0 < lane → lane < 1024 / t
      → slice_index (words_in t (1024 / t) (take 128 (block_bytes page block))) lane ≡ slice_index (own_bases (1024 / t) values) lane

-- the 1024 values that a page's block is written from: where the page has fewer for it, the last one stands for all others
abbrev pub filled_block : List ℕ → ℕ → List ℕ
filled_block values block = block_part values block ++ replicate (1024 - length (block_part values block)) (slice_index values (length values - 1))

-- each block of a page of these values is written so
abbrev pub HasShortestBlocks : ℕ → Bool → List ℕ → List ℕ → Type 0
HasShortestBlocks t frames_only page values = (block : ℕ) → block < blocks_of page → IsShortest t frames_only page block (filled_block values block)

-- how many bytes a page of so many values has at most: a head and a frame of the full width for each block
abbrev pub page_most : ℕ → ℕ → ℕ
page_most t values = 16 + (values + 1023) / 1024 * (16 + 128 * t)
