-- Sums of polynomials, and their products with powers of x, modulo the generator.
use Rattle.std.proofs.Common.{◌≡◌, ◌+◌, ◌*◌, ◌/◌, ◌%◌, ◌^◌, ◌<◌, ◌∙◌, ℕ, zero, suc, ap, sym, arith, refl}
use Rattle.std.proofs.lemmas.Nat.{pow-add, pow_pos, xor_block, xor_comm, xor_lt, xor_mod, xor_shr}
use Rattle.std.proofs.Math.Nat.{mul_assoc, pow-suc}
use Rattle.std.specs.Int.Bits.{bit_xor, xor_assoc, xor_self, xor_zero_l, xor_zero_r}
use Rattle.fastlanes_checksum.specs.Checksum.{times_x, times_x_to, x_to_32}

-- what is added twice is gone
pub xor_twice : (a b : ℕ) → bit_xor (bit_xor a b) b ≡ a
xor_twice a b = xor_assoc a b b ∙ ap (bit_xor a) (xor_self b) ∙ xor_zero_r a

-- two numbers with no sum are the same
pub same_from_xor : (a b : ℕ) → bit_xor a b ≡ 0 → a ≡ b
same_from_xor a b e = sym (xor_twice a b) ∙ ap (λ n. bit_xor n b) e ∙ xor_zero_l b

-- (a + b) + (c + d) is (a + c) + (b + d)
pub xor_pairs : (a b c d : ℕ) → bit_xor (bit_xor a b) (bit_xor c d) ≡ bit_xor (bit_xor a c) (bit_xor b d)
xor_pairs a b c d =
    xor_assoc a b (bit_xor c d)
    ∙ ap (bit_xor a) (sym (xor_assoc b c d) ∙ ap (λ x. bit_xor x d) (xor_comm b c) ∙ xor_assoc c b d)
    ∙ sym (xor_assoc a c (bit_xor b d))

-- the generator times a sum of two coefficients
xor_times : (a b : ℕ) → a < 2 → b < 2 → bit_xor a b * x_to_32 ≡ bit_xor (a * x_to_32) (b * x_to_32)
xor_times zero zero g h = refl
xor_times zero (suc zero) g h = refl
xor_times (suc zero) zero g h = refl
xor_times (suc zero) (suc zero) g h = refl
xor_times zero (suc (suc b)) g h = absurd (omega arith)
xor_times (suc zero) (suc (suc b)) g h = absurd (omega arith)
xor_times (suc (suc a)) b g h = absurd (omega arith)

pub times_x-xor : (p q : ℕ) → times_x (bit_xor p q) ≡ bit_xor (times_x p) (times_x q)
times_x-xor p q =
    let halves : bit_xor p q / 2 ≡ bit_xor (p / 2) (q / 2) = xor_shr p q 1 in
    let lowest : bit_xor p q % 2 ≡ bit_xor (p % 2) (q % 2) = xor_mod p q 1 in
    let rest : bit_xor p q % 2 * x_to_32 ≡ bit_xor (p % 2 * x_to_32) (q % 2 * x_to_32) = ap (λ n. n * x_to_32) lowest ∙ xor_times (p % 2) (q % 2) (omega arith) (omega arith) in
    ap (λ n. bit_xor n (bit_xor p q % 2 * x_to_32)) halves
    ∙ ap (bit_xor (bit_xor (p / 2) (q / 2))) rest
    ∙ xor_pairs (p / 2) (q / 2) (p % 2 * x_to_32) (q % 2 * x_to_32)

pub times_x_to-xor : (n p q : ℕ) → times_x_to n (bit_xor p q) ≡ bit_xor (times_x_to n p) (times_x_to n q)
unfolding times_x_to
times_x_to-xor zero p q = refl
times_x_to-xor (suc n) p q = ap (times_x_to n) (times_x-xor p q) ∙ times_x_to-xor n (times_x p) (times_x q)

pub times_x_to-add : (m n p : ℕ) → times_x_to (m + n) p ≡ times_x_to n (times_x_to m p)
unfolding times_x_to
times_x_to-add zero n p = let e : 0 + n ≡ n = omega arith in ap (λ k. times_x_to k p) e
times_x_to-add (suc m) n p = let e : suc m + n ≡ suc (m + n) = omega arith in ap (λ k. times_x_to k p) e ∙ times_x_to-add m n (times_x p)

-- what has no coefficient that leaves
times_x-even : (p : ℕ) → times_x (p * 2) ≡ p
times_x-even p =
    let half : p * 2 / 2 ≡ p = omega arith in
    let lowest : p * 2 % 2 ≡ 0 = omega arith in
    rw (half, lowest) (xor_zero_r p)

pub times_x_to-shifted : (n p : ℕ) → times_x_to n (p * 2 ^ n) ≡ p
unfolding times_x_to
times_x_to-shifted zero p = omega arith
times_x_to-shifted (suc n) p =
    let e : p * 2 ^ suc n ≡ p * 2 ^ n * 2 = ap (λ m. p * m) (pow-suc 2 n) ∙ sym (mul_assoc p (2 ^ n) 2) in
    ap (λ q. times_x_to n (times_x q)) e ∙ ap (times_x_to n) (times_x-even (p * 2 ^ n)) ∙ times_x_to-shifted n p

-- a sum of what is below 2 ^ k and of what has only places from there on
pub xor_apart : (k p q : ℕ) → p < 2 ^ k → bit_xor p (q * 2 ^ k) ≡ p + q * 2 ^ k
xor_apart k p q h =
    let e : bit_xor (0 * 2 ^ k + p) (q * 2 ^ k + 0) ≡ bit_xor 0 q * 2 ^ k + bit_xor p 0 = xor_block k 0 q p 0 h (omega (arith, h)) in
    let f : 0 * 2 ^ k + p ≡ p = omega arith in
    let g : q * 2 ^ k + 0 ≡ q * 2 ^ k = omega arith in
    let swapped : q * 2 ^ k + p ≡ p + q * 2 ^ k = omega arith in
    ap (λ n. bit_xor n (q * 2 ^ k)) (sym f) ∙ ap (bit_xor (0 * 2 ^ k + p)) (sym g) ∙ e ∙ ap (λ n. q * 2 ^ k + n) (xor_zero_r p) ∙ swapped

-- eight coefficients are taken apart from the others
pub times_x_to-byte : (k p : ℕ) → times_x_to (k + 8) p ≡ bit_xor (times_x_to (k + 8) (p % 256)) (times_x_to k (p / 256))
times_x_to-byte k p =
    let whole : p % 256 + p / 256 * 256 ≡ p = omega arith in
    let apart : p ≡ bit_xor (p % 256) (p / 256 * 256) = sym (xor_apart 8 (p % 256) (p / 256) (omega arith) ∙ whole) in
    let order : k + 8 ≡ 8 + k = omega arith in
    ap (times_x_to (k + 8)) apart
    ∙ times_x_to-xor (k + 8) (p % 256) (p / 256 * 256)
    ∙ ap (bit_xor (times_x_to (k + 8) (p % 256)))
    (ap (λ n. times_x_to n (p / 256 * 256)) order ∙ times_x_to-add 8 k (p / 256 * 256) ∙ ap (times_x_to k) (times_x_to-shifted 8 (p / 256)))

-- after as many steps as a number has bits above the 32nd, it has none there
pub times_x_to-below : (n p : ℕ) → p < 2 ^ (n + 32) → times_x_to n p < 2 ^ 32
unfolding times_x_to
times_x_to-below zero p below = below
times_x_to-below (suc n) p below =
    let order : suc n + 32 ≡ n + 32 + 1 = omega arith in
    let power : 2 ^ (suc n + 32) ≡ 2 ^ (n + 32) * 2 = ap (λ k. 2 ^ k) order ∙ pow-add 2 (n + 32) 1 in
    let wide : 2 ^ (n + 32) ≡ 2 ^ n * 2 ^ 32 = pow-add 2 n 32 in
    times_x_to-below n (times_x p) (xor_lt (n + 32) (p / 2) (p % 2 * x_to_32) (omega (arith, below, power)) (omega (arith, wide, pow_pos n)))

pub times_x_to-zero : (n : ℕ) → times_x_to n 0 ≡ 0
times_x_to-zero n = let none : 0 ≡ 0 * 2 ^ n = omega arith in ap (times_x_to n) none ∙ times_x_to-shifted n 0
