-- Operations on the lanes of vectors.
use Rattle.std.proofs.Common.{◌≡◌, ℕ, ◌+◌, ◌-◌, ◌*◌, ◌/◌, ◌%◌, ◌^◌, ◌<◌, ◌≤◌, List, length, map, slice_index, replicate, ap, sym, ◌∙◌, arith, zero-add}
use Rattle.std.proofs.lemmas.List.{get_or-map}
use Rattle.std.proofs.lemmas.Simd.{get_or-zip2, get_or-replicate, length-replicate, get_or-put_chunk_at, length-put_chunk}
use Rattle.std.proofs.lemmas.Nat.{and_mask, pow-add, pow_pos, shr_high}
use Rattle.std.specs.Int.Bits.{bit_and}
use Rattle.std.specs.Simd.Lanes.{zip2, put_chunk}

-- an operation by the same number in each lane
pub by_splat : (f : ℕ → ℕ → ℕ) (xs : List ℕ) (n k : ℕ) → length xs ≡ n → (j : ℕ) → j < n → slice_index (zip2 f xs (replicate n k)) j ≡ f (slice_index xs j) k
by_splat f xs n k long j within =
    get_or-zip2 f xs (replicate n k) j 0 0 0 (omega (arith, long)) (omega (arith, length-replicate n k)) ∙ ap (λ y. f (slice_index xs j) y) (get_or-replicate n j k 0 within)

-- the lowest bits in each lane
pub low_by_splat : (xs : List ℕ) (n w k : ℕ) → length xs ≡ n → k ≡ 2 ^ w - 1 → (j : ℕ) → j < n → slice_index (zip2 bit_and xs (replicate n k)) j ≡ slice_index xs j % 2 ^ w
low_by_splat xs n w k long ones j within = by_splat bit_and xs n k long j within ∙ ap (bit_and (slice_index xs j)) ones ∙ and_mask _ _

-- the ones of a word, moved down so that w are left
pub ones_moved : (t w : ℕ) → w ≤ t → (2 ^ t - 1) / 2 ^ (t - w) ≡ 2 ^ w - 1
ones_moved t w h =
    let some : 0 < 2 ^ w = pow_pos w in
    let rest : 0 < 2 ^ (t - w) = pow_pos (t - w) in
    let ones = 2 ^ w - 1 in
    let whole : 2 ^ w ≡ ones + 1 = omega arith in
    let whole_exponent : w + (t - w) ≡ t = omega arith in
    let product : 2 ^ t ≡ (ones + 1) * 2 ^ (t - w) = ap (λ (k : ℕ). 2 ^ k) (sym whole_exponent) ∙ pow-add 2 w (t - w) ∙ ap (λ (k : ℕ). k * 2 ^ (t - w)) whole in
    let parts : 2 ^ t - 1 ≡ ones * 2 ^ (t - w) + (2 ^ (t - w) - 1) = omega (arith, product) in
    rw parts (shr_high ones (t - w) (2 ^ (t - w) - 1) (omega arith))

-- a vector that is put over as many elements
pub put_whole : (f : ℕ → ℕ) (xs row : List ℕ) (n : ℕ) → length xs ≡ n → length row ≡ n → ((x : ℕ) → f x ≡ x)
    → (j : ℕ) → j < n → slice_index (map f (put_chunk 0 xs row)) j ≡ slice_index row j
put_whole f xs row n long whole same j within =
    let put : slice_index (put_chunk 0 xs row) j ≡ slice_index row j = rw (zero-add j) at (get_or-put_chunk_at 0 xs row j 0 (omega (arith, whole)) (omega (arith, long, whole))) in
    get_or-map f (put_chunk 0 xs row) j 0 0 (omega (arith, length-put_chunk 0 xs row, long)) ∙ same _ ∙ put
