-- What the heads of blocks tell of their values. Elements are numbers below 2 ^ t.
use Rattle.std.specs.Prelude.{ℕ, ◌+◌, ◌-◌, ◌*◌, ◌/◌, ◌%◌, ◌^◌, ◌<◌, ◌≤◌, ◌==◌, ◌||◌, zero, suc, Bool, List, [], drop, fold, if◌then◌else◌, length, map, max, min, nat_lt, take}
use Rattle.std.specs.List.{range_with_len}
use Rattle.fastlanes.specs.Frame.{word_sum}
use Rattle.fastlanes_column.specs.LeastWidth.{IsLeastOf}
use Rattle.fastlanes_format.specs.Format.{block_bytes, form_of, page_bytes, reference_of, width_of}
use Rattle.fastlanes_pages.specs.ColumnValues.{block_values, column_values, words_in}

-- what a block has before its packed words: whether it has differences or is a frame, to how many bits each value is packed, what is added
-- to each digit of a frame, and the bases of differences
pub record BlockHead : Type 0 where
  pub differences : Bool
  pub width : ℕ
  pub reference : ℕ
  pub bases : List ℕ

-- a block of a column as its reader has it
pub record ColumnBlock : Type 0 where
  pub head : BlockHead
  pub values : List ℕ

-- the bases of differences are the words of the first 128 bytes, and a frame has none
unfoldable pub form_bases : ℕ → Bool → List ℕ → List ℕ
form_bases t differences bytes = (if differences then words_in t (1024 / t) (take 128 bytes) else [])

-- the head of a block that has differences or is a frame
abbrev pub form_head : ℕ → Bool → ℕ → ℕ → List ℕ → BlockHead
form_head t differences width reference bytes =
    record { differences = differences; width = width; reference = reference; bases = form_bases t differences bytes }

-- that of a block of a page
abbrev pub page_head : ℕ → List ℕ → ℕ → BlockHead
page_head t page block = form_head t (form_of page block == 1) (width_of page block) (reference_of page block) (block_bytes page block)

-- that of a block of a column
abbrev pub column_head : ℕ → List ℕ → ℕ → BlockHead
column_head t bytes number = page_head t (page_bytes bytes (number / 64)) (number % 64)

-- the first values of a block of a page
abbrev pub page_block : ℕ → ℕ → List ℕ → ℕ → ℕ → ColumnBlock
page_block t lanes page block len = record { head = page_head t page block; values = take len (block_values t lanes page block) }

-- a block of a column: 1024 values, or what is left of them
abbrev pub column_block : ℕ → ℕ → List ℕ → ℕ → ColumnBlock
column_block t lanes bytes number = record { head = column_head t bytes number; values = take 1024 (drop (1024 * number) (column_values t lanes bytes)) }

-- how many blocks a column has
abbrev pub column_blocks : ℕ → ℕ → List ℕ → ℕ
column_blocks t lanes bytes = (length (column_values t lanes bytes) + 1023) / 1024

-- the numbers that a FOR block of this width and this reference can have: the sums of the reference and each digit, modulo 2 ^ t
abbrev pub frame_numbers : ℕ → ℕ → ℕ → List ℕ
frame_numbers t width reference = map (λ d. word_sum t d reference) (range_with_len 0 (2 ^ width))

-- the minimum of these, and their maximum
unfoldable pub frame_least : ℕ → ℕ → ℕ → ℕ
frame_least t width reference = fold min (2 ^ t - 1) (frame_numbers t width reference)

unfoldable pub frame_greatest : ℕ → ℕ → ℕ → ℕ
frame_greatest t width reference = fold max 0 (frame_numbers t width reference)

-- the maximum of the bases of a delta block, and t digits of this width that are all the greatest
abbrev pub sums_most : ℕ → ℕ → List ℕ → ℕ
sums_most t width bases = fold max 0 bases + t * (2 ^ width - 1)

-- the bounds of a delta block: the minimum of the bases and that sum, or 0 and the greatest element if the sum is not below 2 ^ t
unfoldable pub sums_least : ℕ → ℕ → List ℕ → ℕ
sums_least t width bases = (if nat_lt (sums_most t width bases) (2 ^ t) then fold min (2 ^ t - 1) bases else 0)

unfoldable pub sums_greatest : ℕ → ℕ → List ℕ → ℕ
sums_greatest t width bases = min (sums_most t width bases) (2 ^ t - 1)

-- the bounds of a block that has this head
abbrev pub head_least : ℕ → BlockHead → ℕ
head_least t head = (if head.differences then sums_least t head.width head.bases else frame_least t head.width head.reference)

abbrev pub head_greatest : ℕ → BlockHead → ℕ
head_greatest t head = (if head.differences then sums_greatest t head.width head.bases else frame_greatest t head.width head.reference)

-- whether a head alone tells what a comparison with a value says of a block: if the value lies outside of its bounds
abbrev pub head_tells : ℕ → BlockHead → ℕ → Bool
head_tells t head value = nat_lt value (head_least t head) || nat_lt (head_greatest t head) value

-- of how many of the first n blocks of a column
abbrev pub told_blocks : ℕ → List ℕ → ℕ → ℕ → ℕ
told_blocks t bytes value zero = 0
told_blocks t bytes value (suc n) = told_blocks t bytes value n + (if head_tells t (column_head t bytes n) value then 1 else 0)

-- the least lower bound of the first n blocks, and the greatest upper bound; of none, the greatest element and 0
abbrev pub heads_least : ℕ → List ℕ → ℕ → ℕ
heads_least t bytes zero = 2 ^ t - 1
heads_least t bytes (suc n) = min (heads_least t bytes n) (head_least t (column_head t bytes n))

abbrev pub heads_greatest : ℕ → List ℕ → ℕ → ℕ
heads_greatest t bytes zero = 0
heads_greatest t bytes (suc n) = max (heads_greatest t bytes n) (head_greatest t (column_head t bytes n))

-- in none of the first n blocks of a column the sum of the reference and a digit comes to 2 ^ t
abbrev pub NoneWraps : ℕ → List ℕ → ℕ → Type 0
NoneWraps t bytes n = (number : ℕ) → number < n → (column_head t bytes number).reference + 2 ^ (column_head t bytes number).width ≤ 2 ^ t

-- the lower bound by the heads of a column's FOR blocks is the minimum of the values, if none wraps; and so it is if it is above 0, or if
-- the upper bound is below the greatest element. (If one wraps, the bounds are 0 and the greatest element.)
pub record TellMinimum (t : ℕ) (bytes : List ℕ) (n : ℕ) (values : List ℕ) : Type 0 where
  pub exact : NoneWraps t bytes n → IsLeastOf (heads_least t bytes n) values
  pub above : 0 < heads_least t bytes n → IsLeastOf (heads_least t bytes n) values
  pub below : heads_greatest t bytes n < 2 ^ t - 1 → IsLeastOf (heads_least t bytes n) values
