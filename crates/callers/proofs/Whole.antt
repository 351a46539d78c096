-- Lists whose blocks are the same are the same.
use Rattle.std.proofs.Common.{◌≡◌, ℕ, ◌+◌, ◌*◌, ◌/◌, ◌%◌, ◌^◌, ◌<◌, List, ap, arith, drop, get_or, length, map, sym, take, ◌∙◌}
use Rattle.std.proofs.lemmas.Grind.{common_steps}
use Rattle.std.proofs.lemmas.List.{drop-map, ext_get_or, get_or-drop, get_or-take, length-map, take-map}
use Rattle.fastlanes_blocks.specs.Blocks.{PacksBlocks, UnpacksBlocks, block_at}
use Rattle.fastlanes_packing.specs.Packing.{low_bits}

-- a number of a list is one of its block
number_at : (b k i : ℕ) (xs : List ℕ) → k < 1024 → i ≡ 1024 * b + k → get_or (block_at 1024 b xs) k 0 ≡ get_or xs i 0
number_at b k i xs inside at =
    get_or-take 1024 (drop (1024 * b) xs) k 0 inside ∙ get_or-drop (1024 * b) xs k 0 ∙ ap (λ (j : ℕ). get_or xs j 0) (sym at)

same_blocks : (count : ℕ) (xs ys : List ℕ) → length xs ≡ 1024 * count → length ys ≡ 1024 * count
    → ((b : ℕ) → b < count → block_at 1024 b xs ≡ block_at 1024 b ys) → xs ≡ ys
same_blocks count xs ys long too each = ext_get_or 0 xs ys (long ∙ sym too) (λ i inside.
    let b = i / 1024 in
    let k = i % 1024 in
    let at : i ≡ 1024 * b + k = grind (arith, common_steps) in
    let below : k < 1024 = grind (arith, common_steps) in
    let within : b < count = omega (arith, at, long, inside) in
    sym (number_at b k i xs below at) ∙ ap (λ (zs : List ℕ). get_or zs k 0) (each b within) ∙ number_at b k i ys below at)

-- the digits of blocks that were packed are what is left of their numbers
pub back_again : (t lanes w count : ℕ) (v p u : List ℕ) → length v ≡ 1024 * count → length u ≡ 1024 * count
    → PacksBlocks t lanes w count v p → UnpacksBlocks t lanes w count p u → u ≡ low_bits w v
unfolding low_bits
back_again t lanes w count v p u long too packs unpacks =
    let low : ℕ → ℕ = λ x. x % 2 ^ w in
    same_blocks count u (map low v) too (length-map v low ∙ long) (λ b inside.
    (unpacks b inside).digits ∙ (packs b inside).digits
    ∙ sym (take-map low 1024 (drop (1024 * b) v)) ∙ ap (take 1024) (sym (drop-map low (1024 * b) v)))
