-- Bytes that differ in one burst of bits have different checksums.
use Rattle.std.proofs.Common.{◌≡◌, ◌≢◌, ◌+◌, ◌-◌, ◌*◌, ◌/◌, ◌%◌, ◌^◌, ◌<◌, ◌∙◌, ℕ, List, zero, suc, ap, sym, arith, length}
use Rattle.std.proofs.lemmas.Nat.{xor_lt}
use Rattle.std.proofs.Math.Nat.{pos_of_ne-zero}
use Rattle.std.specs.Int.Bits.{bit_xor, xor_self, xor_zero_l}
use Rattle.fastlanes_checksum.specs.Checksum.{DifferInOneBurst, checksum, number_of_bytes, register_after, times_x, times_x_to, x_to_32}
use Rattle.fastlanes_checksum.proofs.Polynomials.{same_from_xor, times_x_to-add, times_x_to-shifted, times_x_to-xor, xor_pairs, xor_twice}

-- what is not 0 times x is not 0
times_x-lt : (p : ℕ) → p < 2 ^ 32 → times_x p < 2 ^ 32
times_x-lt p h = xor_lt 32 (p / 2) (p % 2 * x_to_32) (omega (arith, h)) (omega arith)

times_x-pos : (p : ℕ) → p < 2 ^ 32 → 0 < p → 0 < times_x p
times_x-pos p h some = pos_of_ne-zero (λ e. let same : p / 2 ≡ p % 2 * x_to_32 = same_from_xor _ _ e in omega arith)

times_x_to-pos : (n p : ℕ) → p < 2 ^ 32 → 0 < p → 0 < times_x_to n p
unfolding times_x_to
times_x_to-pos zero p h some = some
times_x_to-pos (suc n) p h some = times_x_to-pos n (times_x p) (times_x-lt p h) (times_x-pos p h some)

-- the sum of the registers after bytes that are as many
register_after-xor : (r : ℕ) (a b : List ℕ) → length a ≡ length b
    → bit_xor (register_after r a) (register_after r b) ≡ times_x_to (8 * length a) (bit_xor (number_of_bytes a) (number_of_bytes b))
unfolding register_after
register_after-xor r a b as_many =
    let m = number_of_bytes a in
    let n = number_of_bytes b in
    let sums : bit_xor (bit_xor r m) (bit_xor r n) ≡ bit_xor m n = xor_pairs r m r n ∙ ap (λ x. bit_xor x (bit_xor m n)) (xor_self r) ∙ xor_zero_l (bit_xor m n) in
    ap (λ k. bit_xor (times_x_to (8 * length a) (bit_xor r m)) (times_x_to (8 * k) (bit_xor r n))) (sym as_many)
    ∙ sym (times_x_to-xor (8 * length a) (bit_xor r m) (bit_xor r n))
    ∙ ap (times_x_to (8 * length a)) sums

pub burst_is_found : (a b : List ℕ) → DifferInOneBurst a b → checksum a ≢ checksum b
unfolding checksum
burst_is_found a b d same =
    let ones = 2 ^ 32 - 1 in
    let bits = 8 * length a in
    let registers : register_after ones a ≡ register_after ones b =
    sym (xor_twice (register_after ones a) ones) ∙ ap (λ r. bit_xor r ones) same ∙ xor_twice (register_after ones b) ones in
    let none : bit_xor (register_after ones a) (register_after ones b) ≡ 0 = ap (λ r. bit_xor r (register_after ones b)) registers ∙ xor_self (register_after ones b) in
    let order : bits ≡ d.from + (bits - d.from) = omega (arith, d.inside) in
    let found : bit_xor (register_after ones a) (register_after ones b) ≡ times_x_to (bits - d.from) d.burst =
    register_after-xor ones a b d.as_many ∙ ap (times_x_to bits) d.differ ∙ ap (λ n. times_x_to n (d.burst * 2 ^ d.from)) order
    ∙ times_x_to-add d.from (bits - d.from) (d.burst * 2 ^ d.from) ∙ ap (times_x_to (bits - d.from)) (times_x_to-shifted d.from d.burst) in
    let some : 0 < times_x_to (bits - d.from) d.burst = times_x_to-pos (bits - d.from) d.burst d.within d.some in
    omega (arith, none, found, some)
