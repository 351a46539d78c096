-- Blocks one after another, all packed to one width: v is the list of the elements of all blocks, p that of their words.
use Rattle.std.specs.Prelude.{ℕ, ◌*◌, ◌<◌, List, drop, take}
use Rattle.fastlanes_packing.specs.Packing.{PacksBlock, UnpacksBlock}

-- block b of a list of blocks of so many numbers each
abbrev pub block_at : ℕ → ℕ → List ℕ → List ℕ
block_at size b list = take size (drop (size * b) list)

-- the words of each of so many blocks are its elements, packed
abbrev pub PacksBlocks : ℕ → ℕ → ℕ → ℕ → List ℕ → List ℕ → Type 0
PacksBlocks t lanes w count v p =
    (b : ℕ) → b < count → PacksBlock t lanes w (block_at 1024 b v) (block_at (lanes * w) b p)

-- the elements of each of so many blocks are its words, unpacked
abbrev pub UnpacksBlocks : ℕ → ℕ → ℕ → ℕ → List ℕ → List ℕ → Type 0
UnpacksBlocks t lanes w count p v =
    (b : ℕ) → b < count → UnpacksBlock t lanes w (block_at (lanes * w) b p) (block_at 1024 b v)
