-- Where the bytes of blocks begin.
use Rattle.std.proofs.Common.{◌≡◌, ℕ, ◌+◌, ◌-◌, ◌*◌, ◌<◌, ◌≤◌, Bool, List, zero, suc, arith, length}
use Rattle.std.proofs.Math.Nat.{mul-le-mul_right, suc-mul}
use Rattle.fastlanes_format.specs.Format.{IsBlockHead, IsPage, block_place, blocks_of, head_of, longest_page}

-- they stand behind all heads
pub heads_first : (page : List ℕ) (block : ℕ) → head_of (blocks_of page) ≤ block_place page block
heads_first page zero = omega arith
heads_first page (suc block) = let before = heads_first page block in omega arith

-- one block after another
pub places_ordered : (page : List ℕ) (block more : ℕ) → block_place page block ≤ block_place page (block + more)
places_ordered page block zero = let same : block + zero ≡ block = omega arith in rw same (omega arith)
places_ordered page block (suc more) =
    let next : block + suc more ≡ suc (block + more) = omega arith in
    let before = places_ordered page block more in
    rw next (omega (arith, before))

-- the head of a block, and its bytes, lie within the page
pub block_inside : (bits : ℕ) (checked : Bool) (page : List ℕ) (block : ℕ) → IsPage bits checked page → block < blocks_of page
    → (head_of block + 16 ≤ length page) × (block_place page (suc block) ≤ length page)
block_inside bits checked page block is within =
    let behind = heads_first page (blocks_of page) in
    let all : suc block + (blocks_of page - suc block) ≡ blocks_of page = omega (arith, within) in
    let ordered = rw all at (places_ordered page (suc block) (blocks_of page - suc block)) in
    (omega (arith, is.whole, behind, within), omega (arith, is.whole, ordered))

-- the bytes of blocks are at most differences of the full width
places_most : (bits : ℕ) (page : List ℕ) (n : ℕ) → ((block : ℕ) → block < blocks_of page → IsBlockHead bits page block) → n ≤ blocks_of page
    → block_place page n ≤ head_of (blocks_of page) + n * (128 * (bits + 1))
places_most bits page zero heads within = omega arith
places_most bits page (suc n) heads within =
    let before = places_most bits page n heads (omega arith) in
    let head = heads n (omega arith) in
    let next : suc n * (128 * (bits + 1)) ≡ n * (128 * (bits + 1)) + 128 * (bits + 1) = suc-mul n (128 * (bits + 1)) in
    omega (arith, before, head.form, head.width, next)

-- no page is longer than the longest one
pub page_longest : (bits : ℕ) (checked : Bool) (page : List ℕ) → IsPage bits checked page → length page ≤ longest_page bits
page_longest bits checked page is =
    let most = places_most bits page (blocks_of page) is.heads (omega arith) in
    let blocks : blocks_of page ≤ 64 = omega (arith, is.most) in
    let all : blocks_of page * (128 * (bits + 1)) ≤ 64 * (128 * (bits + 1)) = mul-le-mul_right (128 * (bits + 1)) blocks in
    omega (arith, most, blocks, all, is.whole)
