-- Numbers in bytes.
use Rattle.std.proofs.Common.{◌≡◌, ℕ, ◌+◌, ◌^◌, ◌<◌, ◌≤◌, ◌++◌, ◌∙◌, List, zero, suc, ap, arith, drop, get_or, length, refl, sym, take}
use Rattle.std.proofs.Math.ListN.{get_or-append}
use Rattle.std.proofs.lemmas.List.{take-append-drop}
use Rattle.std.proofs.lemmas.Nat.{from_le_bytes-to_le_bytes_4, from_le_bytes-to_le_bytes_8}
use Rattle.std.specs.Int.{to_le_bytes, w32, w64}
use Rattle.fastlanes_format.specs.Format.{number_at}

-- the same bytes are the same number, wherever they stand
pub number_at-same : (n : ℕ) (xs ys : List ℕ) (p q : ℕ) → ((k : ℕ) → k < n → get_or xs (p + k) 0 ≡ get_or ys (q + k) 0) → number_at n xs p ≡ number_at n ys q
number_at-same zero xs ys p q same = refl
number_at-same (suc n) xs ys p q same =
    let at : (m : ℕ) → m ≡ m + 0 = λ m. omega arith in
    let next : (m k : ℕ) → m + 1 + k ≡ m + suc k = λ m k. omega arith in
    let first = ap (λ m. get_or xs m 0) (at p) ∙ same 0 (omega arith) ∙ ap (λ m. get_or ys m 0) (sym (at q)) in
    let others = number_at-same n xs ys (p + 1) (q + 1)
    (λ k below. ap (λ m. get_or xs m 0) (next p k) ∙ same (suc k) (omega arith) ∙ ap (λ m. get_or ys m 0) (sym (next q k))) in
    omega (arith, first, others)

-- numbers of the first of two lists of bytes
pub number_at-append : (n : ℕ) (xs ys : List ℕ) (at : ℕ) → at + n ≤ length xs → number_at n (xs ++ ys) at ≡ number_at n xs at
number_at-append n xs ys at inside = number_at-same n (xs ++ ys) xs at at (λ k below. get_or-append xs ys 0 (at + k) (omega arith))

-- numbers of the first bytes
pub number_at-take : (n m : ℕ) (bytes : List ℕ) (at : ℕ) → at + n ≤ length (take m bytes) → number_at n (take m bytes) at ≡ number_at n bytes at
number_at-take n m bytes at inside =
    sym (number_at-append n (take m bytes) (drop m bytes) at inside) ∙ ap (λ b. number_at n b at) (take-append-drop m bytes)

-- the number that was written
pub number_of_four : (bytes : List ℕ) (at n : ℕ) → n < 2 ^ 32 → ((k : ℕ) → k < 4 → get_or bytes (at + k) 0 ≡ get_or (to_le_bytes w32 n) k 0) → number_at 4 bytes at ≡ n
number_of_four bytes at n fits same =
    let written = number_at-same 4 bytes (to_le_bytes w32 n) at 0 (λ k below. let here : 0 + k ≡ k = omega arith in same k below ∙ ap (λ m. get_or (to_le_bytes w32 n) m 0) (sym here)) in
    omega (arith, written, from_le_bytes-to_le_bytes_4 n fits)

pub number_of_eight : (bytes : List ℕ) (at n : ℕ) → n < 2 ^ 64 → ((k : ℕ) → k < 8 → get_or bytes (at + k) 0 ≡ get_or (to_le_bytes w64 n) k 0) → number_at 8 bytes at ≡ n
number_of_eight bytes at n fits same =
    let written = number_at-same 8 bytes (to_le_bytes w64 n) at 0 (λ k below. let here : 0 + k ≡ k = omega arith in same k below ∙ ap (λ m. get_or (to_le_bytes w64 n) m 0) (sym here)) in
    omega (arith, written, from_le_bytes-to_le_bytes_8 n fits)
