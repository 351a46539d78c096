-- The pages of a column's values, and how long a column is at most.
use Rattle.std.specs.Prelude.{ℕ, ◌+◌, ◌*◌, ◌/◌, ◌<◌, Bool, List, [], drop, length, slice_index_or, take}
use Rattle.fastlanes_pages.specs.Shortest.{HasShortestBlocks}

-- the values that a page has: 65536 of them, or what is left
abbrev pub page_part : {X : Type 0} → List X → ℕ → List X
page_part values page = take 65536 (drop (65536 * page) values)

-- each block of the pages of these values is written so
abbrev pub HaveShortestBlocks : ℕ → Bool → List (List ℕ) → List ℕ → Type 0
HaveShortestBlocks t frames_only pages values =
    (page : ℕ) → page < length pages → HasShortestBlocks t frames_only (slice_index_or pages page []) (page_part values page)

-- how many bytes the pages of so many values have at most: a head for each, and a head and a frame of the full width for each block
abbrev pub pages_most : ℕ → ℕ → ℕ
pages_most t values = 16 * ((values + 65535) / 65536) + (values + 1023) / 1024 * (16 + 128 * t)

-- with the head of the column and its end
abbrev pub column_most : ℕ → ℕ → ℕ
column_most t values = 32 + pages_most t values
