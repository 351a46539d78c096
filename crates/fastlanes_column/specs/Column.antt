-- The words of a column. A block of w bits an element has lanes * w words, and these follow those of the blocks before it. p is
-- the list of all words; `widths` and `references` have a number for each block.
use Rattle.std.specs.Prelude.{◌≡◌, ◌↔◌, ℕ, ◌*◌, ◌/◌, ◌%◌, ◌^◌, ◌<◌, [], All, List, drop, length, map, slice_index, take}
use Rattle.std.specs.List.{range_with_len, slice_index_or, sum_by}
use Rattle.fastlanes.specs.Digits.{IsPacked, digits}
use Rattle.fastlanes.specs.Frame.{NearBlockComesBack, framed, unframed, word_difference}
use Rattle.fastlanes_column.specs.LeastWidth.{IsNarrowestHead, LieAbove}

-- how many words blocks of these widths have
abbrev pub words_of : ℕ → List ℕ → ℕ
words_of lanes widths = sum_by (λ w. lanes * w) widths

-- where the words of block b begin: after those of the blocks before it
abbrev pub part_start : ℕ → List ℕ → ℕ → ℕ
part_start lanes widths b = words_of lanes (take b widths)

-- where those of each block begin
abbrev pub part_starts : ℕ → List ℕ → List ℕ
part_starts lanes widths = map (part_start lanes widths) (range_with_len 0 (length widths))

-- the words of block b
abbrev pub part : ℕ → List ℕ → List ℕ → ℕ → List ℕ
part lanes widths p b = take (lanes * slice_index widths b) (drop (part_start lanes widths b) p)

-- the block that these words hold: the digits plus the reference
abbrev pub held_block : ℕ → ℕ → List ℕ → List ℕ → List ℕ → ℕ → List ℕ
held_block t lanes widths references p b =
    unframed t (slice_index references b) (digits t lanes (slice_index widths b) (part lanes widths p b))

-- all blocks of the column
abbrev pub held_blocks : ℕ → ℕ → List ℕ → List ℕ → List ℕ → List (List ℕ)
held_blocks t lanes widths references p = map (held_block t lanes widths references p) (range_with_len 0 (length widths))

-- value number i of the column
abbrev pub held_value : ℕ → ℕ → List ℕ → List ℕ → List ℕ → ℕ → ℕ
held_value t lanes widths references p i = slice_index (held_block t lanes widths references p (i / 1024)) (i % 1024)

-- block b of a list of blocks
abbrev pub block_at : List (List ℕ) → ℕ → List ℕ
block_at blocks b = slice_index_or blocks b []

-- the words of each block are its differences from its reference, packed to its width
abbrev pub PacksColumn : ℕ → ℕ → List ℕ → List ℕ → List (List ℕ) → List ℕ → Type 0
PacksColumn t lanes widths references blocks p = (b : ℕ) → b < length widths
    → IsPacked t lanes (slice_index widths b) (framed t (slice_index references b) (block_at blocks b)) (part lanes widths p b)

-- each difference of an element from its block's reference has at most as many bits as the block's width
abbrev pub AreNear : ℕ → List ℕ → List ℕ → List (List ℕ) → Type 0
AreNear t widths references blocks = (b : ℕ) → b < length widths
    → All (λ x. word_difference t x (slice_index references b) < 2 ^ slice_index widths b) (block_at blocks b)

-- a block comes back from its words exactly where each of its differences has at most so many bits
abbrev pub NearBlocksComeBack : ℕ → ℕ → List ℕ → List ℕ → List (List ℕ) → List ℕ → Type 0
NearBlocksComeBack t lanes widths references blocks p = (b : ℕ) → b < length widths
    → NearBlockComesBack t lanes (slice_index widths b) (slice_index references b) (block_at blocks b) (part lanes widths p b)

-- and all blocks come back exactly where all differences of all blocks have
abbrev pub NearColumnComesBack : ℕ → ℕ → List ℕ → List ℕ → List (List ℕ) → List ℕ → Type 0
NearColumnComesBack t lanes widths references blocks p =
    ((b : ℕ) → b < length widths → held_block t lanes widths references p b ≡ block_at blocks b) ↔ AreNear t widths references blocks

-- so do they as one list
abbrev pub NearListComesBack : ℕ → ℕ → List ℕ → List ℕ → List (List ℕ) → List ℕ → Type 0
NearListComesBack t lanes widths references blocks p =
    (held_blocks t lanes widths references p ≡ blocks) ↔ AreNear t widths references blocks

-- the elements of each block lie at its reference or above it, by differences of at most as many bits as its width
abbrev pub BlocksLieAbove : List ℕ → List ℕ → List (List ℕ) → Type 0
BlocksLieAbove widths references blocks = (b : ℕ) → b < length blocks
    → LieAbove (slice_index references b) (slice_index widths b) (block_at blocks b)

-- each block has a narrowest head
abbrev pub AreNarrowestHeads : List ℕ → List ℕ → List (List ℕ) → Type 0
AreNarrowestHeads widths references blocks = (b : ℕ) → b < length blocks
    → IsNarrowestHead (slice_index references b) (slice_index widths b) (block_at blocks b)
