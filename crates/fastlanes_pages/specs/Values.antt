-- The values that the bytes of blocks and pages stand for. Elements are numbers below 2 ^ t, and a block has so many lanes.
use Rattle.std.specs.Prelude.{◌≡◌, ℕ, ◌+◌, ◌*◌, ◌%◌, ◌^◌, ◌<◌, ◌≤◌, Bool, List, [], ◌∷◌, ◌++◌, drop, length, take}
use Rattle.fastlanes.specs.Delta.{undeltas}
use Rattle.fastlanes.specs.Digits.{digits}
use Rattle.fastlanes.specs.Frame.{unframed}
use Rattle.fastlanes.specs.Transposition.{untransposed}
use Rattle.fastlanes_bytes.specs.Bytes.{HasWords}
use Rattle.fastlanes_format.specs.Format.{IsBlockHead, IsColumnHead, IsEnd, IsPage, block_bytes, block_len, block_place, blocks_of, form_of, head_of, reference_of, values_of, width_of}

-- the bytes are packed words, and the values are the sums of their digits and the reference
pub record IsFrame (t lanes width reference : ℕ) (bytes values : List ℕ) : Type 0 where
  pub words : List ℕ
  pub packed : HasWords t (lanes * width) words bytes
  pub sums : values ≡ unframed t reference (digits t lanes width words)

-- there are the bytes of a base for each lane, and those of packed words, and the values are what the digits add up to from the bases,
-- in the order of neighbours
pub record AreDifferences (t lanes width : ℕ) (before bytes values : List ℕ) : Type 0 where
  pub bases : List ℕ
  pub words : List ℕ
  pub start : HasWords t lanes bases before
  pub packed : HasWords t (lanes * width) words bytes
  pub sums : values ≡ untransposed (undeltas t lanes bases (digits t lanes width words))

-- a block has these 1024 values
pub record HoldsBlock (t lanes : ℕ) (page : List ℕ) (block : ℕ) (values : List ℕ) : Type 0 where
  pub frame : form_of page block ≡ 0 → IsFrame t lanes (width_of page block) (reference_of page block) (block_bytes page block) values
  pub differences : form_of page block ≡ 1 → AreDifferences t lanes (width_of page block)
      (take 128 (block_bytes page block)) (drop 128 (block_bytes page block)) values

-- the values of a page that a block has
abbrev pub block_part : List ℕ → ℕ → List ℕ
block_part values block = take 1024 (drop (1024 * block) values)

-- these are the first values of a block
pub record BeginsBlock (t lanes : ℕ) (page : List ℕ) (block : ℕ) (part : List ℕ) : Type 0 where
  pub whole : List ℕ
  pub holds : HoldsBlock t lanes page block whole
  pub begins : part ≡ take (length part) whole

-- the bytes of a block can be put from this place of a page on: behind the block's head, where those of the blocks before it end,
-- and where four bytes can tell the place
pub record IsNextPlace (page : List ℕ) (number place : ℕ) : Type 0 where
  pub heads : head_of (number + 1) ≤ place
  pub at : place ≡ block_place page number
  pub most : place < 2 ^ 32

-- a page has the head of this block, and the block's bytes from the place up to where they stop; all its other bytes are those that
-- it had
pub record PutsBlock (t : ℕ) (old new : List ℕ) (number place stop : ℕ) : Type 0 where
  pub end : stop ≡ place + block_len new number
  pub inside : stop ≤ length new
  pub is_head : IsBlockHead t new number
  pub before : take (head_of number) new ≡ take (head_of number) old
  pub between : drop (head_of (number + 1)) (take place new) ≡ drop (head_of (number + 1)) (take place old)
  pub behind : drop stop new ≡ drop stop old

-- the bytes are a page that has these values
pub record HoldsPage (t lanes : ℕ) (checked : Bool) (page values : List ℕ) : Type 0 where
  pub is : IsPage t checked page
  pub count : length values ≡ values_of page
  pub blocks : (block : ℕ) → block < blocks_of page → BeginsBlock t lanes page block (block_part values block)

-- the bytes are these pages and the end, behind pages of so many values, and the pages have these values
abbrev pub HoldsPages : ℕ → ℕ → Bool → ℕ → List (List ℕ) → List ℕ → List ℕ → Type 0
HoldsPages t lanes checked before [] bytes values = IsEnd checked before bytes × (values ≡ [])
HoldsPages t lanes checked before (page ∷ pages) bytes values = (rest here more : List ℕ) × (bytes ≡ page ++ rest) × (values ≡ here ++ more)
    × (before % 65536 ≡ 0) × HoldsPage t lanes checked page here × HoldsPages t lanes checked (before + length here) pages rest more

-- the bytes are a column of these values
pub record HoldsColumn (t lanes : ℕ) (bytes values : List ℕ) : Type 0 where
  pub checked : Bool
  pub head : IsColumnHead t checked (take 8 bytes)
  pub pages : List (List ℕ)
  pub behind : HoldsPages t lanes checked 0 pages (drop 8 bytes) values
