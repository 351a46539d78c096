-- Bytes, by their places, as numbers.
use Rattle.std.proofs.Common.{◌≡◌, ◌+◌, ◌*◌, ◌^◌, ◌<◌, ◌∙◌, ℕ, List, [], ◌∷◌, zero, suc, ap, sym, arith, refl, get_or, length}
use Rattle.std.proofs.lemmas.Nat.{pow-add, xor_block}
use Rattle.std.proofs.Math.Nat.{mul_assoc}
use Rattle.std.specs.Int.Bits.{bit_xor}
use Rattle.fastlanes_checksum.specs.Checksum.{number_of_bytes}
use Rattle.fastlanes_checksum.specs.Multiple.{number_of_first}
use Rattle.fastlanes_checksum.proofs.Polynomials.{xor_apart}

pub number_of_first-list : (bytes : List ℕ) → number_of_bytes bytes ≡ number_of_first (λ i. get_or bytes i 0) (length bytes)
unfolding number_of_first number_of_bytes
number_of_first-list [] = refl
number_of_first-list (byte ∷ bytes) = ap (λ n. byte + 256 * n) (number_of_first-list bytes)

pub number_of_first-same : (f g : ℕ → ℕ) (n : ℕ) → ((i : ℕ) → i < n → f i ≡ g i) → number_of_first f n ≡ number_of_first g n
unfolding number_of_first
number_of_first-same f g zero same = refl
number_of_first-same f g (suc n) same =
    ap (λ m. m + 256 * number_of_first (λ i. f (suc i)) n) (same 0 (omega arith))
    ∙ ap (λ m. g 0 + 256 * m) (number_of_first-same (λ i. f (suc i)) (λ i. g (suc i)) n (λ i within. same (suc i) (omega (arith, within))))

pub number_of_first-below : (f : ℕ → ℕ) (n : ℕ) → ((i : ℕ) → i < n → f i < 256) → number_of_first f n < 2 ^ (8 * n)
unfolding number_of_first
number_of_first-below f zero bytes = omega arith
number_of_first-below f (suc n) bytes =
    let order : 8 * suc n ≡ 8 * n + 8 = omega arith in
    let power : 2 ^ (8 * suc n) ≡ 2 ^ (8 * n) * 2 ^ 8 = ap (λ m. 2 ^ m) order ∙ pow-add 2 (8 * n) 8 in
    let first : f 0 < 256 = bytes 0 (omega arith) in
    let rest : number_of_first (λ i. f (suc i)) n < 2 ^ (8 * n) = number_of_first-below (λ i. f (suc i)) n (λ i within. bytes (suc i) (omega (arith, within))) in
    omega (arith, power, first, rest)

pub number_of_first-sum : (f : ℕ → ℕ) (m n : ℕ) → number_of_first f (m + n) ≡ number_of_first f m + number_of_first (λ i. f (m + i)) n * 2 ^ (8 * m)
unfolding number_of_first
number_of_first-sum f zero n =
    let none : 0 + n ≡ n = omega arith in
    let same : number_of_first (λ i. f (0 + i)) n ≡ number_of_first f n = number_of_first-same (λ i. f (0 + i)) f n (λ i within. let e : 0 + i ≡ i = omega arith in ap f e) in
    ap (number_of_first f) none ∙ sym same ∙ omega arith
number_of_first-sum f (suc m) n =
    let order : suc m + n ≡ suc (m + n) = omega arith in
    let bits : 8 * suc m ≡ 8 * m + 8 = omega arith in
    let power : 2 ^ (8 * suc m) ≡ 2 ^ (8 * m) * 2 ^ 8 = ap (λ k. 2 ^ k) bits ∙ pow-add 2 (8 * m) 8 in
    let first = number_of_first (λ i. f (suc i)) m in
    let second = number_of_first (λ i. f (suc (m + i))) n in
    let same : second ≡ number_of_first (λ i. f (suc m + i)) n = number_of_first-same (λ i. f (suc (m + i))) (λ i. f (suc m + i)) n (λ i within. let e : suc (m + i) ≡ suc m + i = omega arith in ap f e) in
    let shifted : second * 2 ^ (8 * suc m) ≡ second * 2 ^ (8 * m) * 256 = ap (λ k. second * k) power ∙ sym (mul_assoc second (2 ^ (8 * m)) (2 ^ 8)) in
    ap (number_of_first f) order ∙ ap (λ k. f 0 + 256 * k) (number_of_first-sum (λ i. f (suc i)) m n)
    ∙ omega (arith, shifted)
    ∙ ap (λ k. f 0 + 256 * first + k * 2 ^ (8 * suc m)) same

pub number_of_first-split : (f : ℕ → ℕ) (m n : ℕ) → ((i : ℕ) → i < m → f i < 256)
    → number_of_first f (m + n) ≡ bit_xor (number_of_first f m) (number_of_first (λ i. f (m + i)) n * 2 ^ (8 * m))
number_of_first-split f m n bytes = sym (xor_apart (8 * m) (number_of_first f m) (number_of_first (λ i. f (m + i)) n) (number_of_first-below f m bytes) ∙ sym (number_of_first-sum f m n))

pub number_of_first-xor : (f g : ℕ → ℕ) (n : ℕ) → ((i : ℕ) → i < n → f i < 256) → ((i : ℕ) → i < n → g i < 256)
    → number_of_first (λ i. bit_xor (f i) (g i)) n ≡ bit_xor (number_of_first f n) (number_of_first g n)
unfolding number_of_first
number_of_first-xor f g zero fs gs = refl
number_of_first-xor f g (suc n) fs gs =
    let a = number_of_first (λ i. f (suc i)) n in
    let b = number_of_first (λ i. g (suc i)) n in
    let rest = number_of_first-xor (λ i. f (suc i)) (λ i. g (suc i)) n (λ i within. fs (suc i) (omega (arith, within))) (λ i within. gs (suc i) (omega (arith, within))) in
    let apart : bit_xor (a * 2 ^ 8 + f 0) (b * 2 ^ 8 + g 0) ≡ bit_xor a b * 2 ^ 8 + bit_xor (f 0) (g 0) = xor_block 8 a b (f 0) (g 0) (fs 0 (omega arith)) (gs 0 (omega arith)) in
    let first : a * 2 ^ 8 + f 0 ≡ f 0 + 256 * a = omega arith in
    let second : b * 2 ^ 8 + g 0 ≡ g 0 + 256 * b = omega arith in
    let sum : bit_xor a b * 2 ^ 8 + bit_xor (f 0) (g 0) ≡ bit_xor (f 0) (g 0) + 256 * bit_xor a b = omega arith in
    ap (λ m. bit_xor (f 0) (g 0) + 256 * m) rest ∙ sym sum ∙ sym apart ∙ ap (λ m. bit_xor m (b * 2 ^ 8 + g 0)) first ∙ ap (bit_xor (f 0 + 256 * a)) second
