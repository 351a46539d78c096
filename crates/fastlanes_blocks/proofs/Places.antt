-- Where blocks of one size stand in a list.
use Rattle.std.proofs.Common.{◌≡◌, ℕ, ◌+◌, ◌-◌, ◌*◌, ◌<◌, ◌≤◌, List, drop, length, map, take, ap, sym, subst, ◌∙◌, arith, below_more}
use Rattle.std.proofs.Math.Nat.{mul-le-mul_left}
use Rattle.std.proofs.lemmas.List.{drop-map, drop-take, take-map, take-take}
use Rattle.std.proofs.lemmas.Slice.{between-put_mid}
use Rattle.fastlanes_blocks.specs.Blocks.{block_at}
use borrow.Rule.Slice.PartMut.{put_mid}

-- a block that is not behind the last ends within all blocks
pub block_end-le : (size b count : ℕ) → b < count → size * b + size ≤ size * count
block_end-le size b count inside =
    let most : size * (b + 1) ≤ size * count = mul-le-mul_left size (omega (arith, inside)) in
    omega (arith, most)

-- the numbers of a block of a slice
pub map-block : {X : Type 0} (number : X → ℕ) (xs : List X) (size b start end : ℕ) → start ≡ size * b → end ≡ start + size
    → map number (take (end - start) (drop start xs)) ≡ block_at size b (map number xs)
map-block number xs size b start end begins ends =
    let count : end - start ≡ size = omega arith in
    sym (take-map number (end - start) (drop start xs))
    ∙ ap (λ (m : ℕ). take m (map number (drop start xs))) count
    ∙ ap (take size) (sym (drop-map number start xs))
    ∙ ap (λ (m : ℕ). take size (drop m (map number xs))) begins

-- and those of what was put into one
pub put-block : {X : Type 0} (number : X → ℕ) (xs ys : List X) (size b start end : ℕ) → start ≡ size * b → end ≡ start + size
    → start ≤ length xs → length ys ≡ end - start → block_at size b (map number (put_mid start (end - start) xs ys)) ≡ map number ys
put-block number xs ys size b start end begins ends within long =
    sym (map-block number (put_mid start (end - start) xs ys) size b start end begins ends)
    ∙ ap (map number) (between-put_mid start (end - start) xs ys end within long)

-- what holds of a part that is read and of what is put into another holds of the blocks that they are
pub of_blocks : {X : Type 0} (number : X → ℕ) (P : List ℕ → List ℕ → Type 0) (xs zs ys : List X) (b read from to size start end : ℕ)
    → from ≡ read * b → to ≡ from + read → start ≡ size * b → end ≡ start + size → start ≤ length zs → length ys ≡ end - start
    → P (map number (take (to - from) (drop from xs))) (map number ys)
    → P (block_at read b (map number xs)) (block_at size b (map number (put_mid start (end - start) zs ys)))
of_blocks number P xs zs ys b read from to size start end here there begins ends within long holds =
    subst (λ (v : List ℕ). P v (block_at size b (map number (put_mid start (end - start) zs ys)))) (map-block number xs read b from to here there)
    (subst (P (map number (take (to - from) (drop from xs)))) (sym (put-block number zs ys size b start end begins ends within long)) holds)

-- a block before a place is the same in lists that are the same up to there
pub block-before : (size b c : ℕ) (xs ys : List ℕ) → c < b → take (size * b) xs ≡ take (size * b) ys → block_at size c xs ≡ block_at size c ys
block-before size b c xs ys before same =
    let within : size * c + size ≤ size * b = block_end-le size c b before in
    let front : (zs : List ℕ) → block_at size c zs ≡ drop (size * c) (take (size * c + size) (take (size * b) zs)) =
    λ zs. sym (drop-take (size * c) size zs) ∙ ap (drop (size * c)) (sym (take-take (size * c + size) (size * b) zs within))
    in
    front xs ∙ ap (λ (zs : List ℕ). drop (size * c) (take (size * c + size) zs)) same ∙ sym (front ys)

-- what holds of the blocks before block b, and of block b once it is written, holds of the blocks before b + 1
pub blocks_more : {X : Type 0} (number : X → ℕ) (size b : ℕ) (xs ys : List X) (P : ℕ → List ℕ → Type 0) → take (size * b) ys ≡ take (size * b) xs
    → ((c : ℕ) → c < b → P c (block_at size c (map number xs))) → P b (block_at size b (map number ys))
    → (c : ℕ) → c < b + 1 → P c (block_at size c (map number ys))
blocks_more number size b xs ys P same before here =
    let numbers : take (size * b) (map number ys) ≡ take (size * b) (map number xs) =
    take-map number (size * b) ys ∙ ap (map number) same ∙ sym (take-map number (size * b) xs)
    in
    below_more (λ c. P c (block_at size c (map number ys))) b
    (λ c below. subst (P c) (sym (block-before size b c (map number ys) (map number xs) below numbers)) (before c below)) here
