-- Registers after bytes that come in pieces.
use Rattle.std.proofs.Common.{◌≡◌, ◌+◌, ◌*◌, ◌<◌, ◌≤◌, ◌-◌, ◌++◌, ◌∷◌, [], ◌∙◌, ℕ, List, suc, ap, sym, arith, drop, get_or, length, slice_range, take}
use Rattle.std.proofs.lemmas.List.Folds.{drop_split}
use Rattle.std.proofs.lemmas.List.{get_or-drop, get_or-take, length-drop, length-take, take-append-drop}
use Rattle.std.proofs.lemmas.Nat.{xor_comm}
use Rattle.std.specs.Int.{from_le_bytes, w64}
use Rattle.std.specs.Int.Bits.{bit_xor, xor_assoc, xor_zero_r}
use Rattle.fastlanes_checksum.specs.Checksum.{number_of_bytes, register_after, times_x_to}
use Rattle.fastlanes_checksum.proofs.Polynomials.{times_x_to-add, times_x_to-shifted, times_x_to-xor, xor_apart}

-- each of these is a byte
abbrev pub AreBytes : List ℕ → Type 0
AreBytes bytes = (i : ℕ) → i < length bytes → get_or bytes i 0 < 256

pub register_after-none : (r : ℕ) → register_after r [] ≡ r
unfolding number_of_bytes register_after times_x_to
register_after-none r = xor_zero_r r

pub register_after-one : (r byte : ℕ) (bytes : List ℕ) → byte < 256 → register_after r (byte ∷ bytes) ≡ register_after (times_x_to 8 (bit_xor r byte)) bytes
unfolding number_of_bytes register_after
register_after-one r byte bytes h =
    let rest = number_of_bytes bytes in
    let bits : 8 * length (byte ∷ bytes) ≡ 8 + 8 * length bytes = omega arith in
    let order : byte + 256 * rest ≡ byte + rest * 256 = omega arith in
    let apart : bit_xor r (byte + 256 * rest) ≡ bit_xor (bit_xor r byte) (rest * 256) =
    ap (bit_xor r) (order ∙ sym (xor_apart 8 byte rest h)) ∙ sym (xor_assoc r byte (rest * 256)) in
    let moved : times_x_to 8 (bit_xor r (byte + 256 * rest)) ≡ bit_xor (times_x_to 8 (bit_xor r byte)) rest =
    ap (times_x_to 8) apart ∙ times_x_to-xor 8 (bit_xor r byte) (rest * 256) ∙ ap (bit_xor (times_x_to 8 (bit_xor r byte))) (times_x_to-shifted 8 rest) in
    ap (λ n. times_x_to n (bit_xor r (byte + 256 * rest))) bits
    ∙ times_x_to-add 8 (8 * length bytes) (bit_xor r (byte + 256 * rest))
    ∙ ap (times_x_to (8 * length bytes)) moved

pub register_after-append : (r : ℕ) (xs ys : List ℕ) → AreBytes xs → register_after r (xs ++ ys) ≡ register_after (register_after r xs) ys
register_after-append r [] ys h = ap (λ n. register_after n ys) (sym (register_after-none r))
register_after-append r (x ∷ xs) ys h =
    register_after-one r x (xs ++ ys) (h 0 (omega arith))
    ∙ register_after-append (times_x_to 8 (bit_xor r x)) xs ys (λ i within. h (suc i) (omega arith))
    ∙ ap (λ n. register_after n ys) (sym (register_after-one r x xs (h 0 (omega arith))))

-- eight bytes as one number
pub number_of_eight : (bytes : List ℕ) → length bytes ≡ 8
    → number_of_bytes bytes ≡ from_le_bytes w64 (get_or bytes 0 0 ∷ get_or bytes 1 0 ∷ get_or bytes 2 0 ∷ get_or bytes 3 0 ∷ get_or bytes 4 0 ∷ get_or bytes 5 0 ∷ get_or bytes 6 0 ∷ get_or bytes 7 0 ∷ [])
unfolding number_of_bytes
number_of_eight (a ∷ b ∷ c ∷ d ∷ e ∷ f ∷ g ∷ h ∷ []) long = omega arith
number_of_eight bytes long = absurd (omega arith)

-- some of the bytes
range_bytes : (bytes : List ℕ) (n at : ℕ) → AreBytes bytes → AreBytes (take n (drop at bytes))
range_bytes bytes n at h = λ i below.
    let within : i < n = omega (arith, below, length-take {A = ℕ}) in
    let inside : at + i < length bytes = omega (arith, below, length-take {A = ℕ}, length-drop {A = ℕ}) in
    rw (get_or-take n (drop at bytes) i 0 within, get_or-drop at bytes i 0) (h (at + i) inside)

-- the bytes from one place on, of which those up to another come first
pub register_after-range : (r : ℕ) (bytes : List ℕ) (at end : ℕ) → AreBytes bytes → at ≤ end
    → register_after r (drop at bytes) ≡ register_after (register_after r (slice_range bytes at end)) (drop end bytes)
register_after-range r bytes at end h before =
    ap (register_after r) (drop_split bytes at end before)
    ∙ register_after-append r (slice_range bytes at end) (drop end bytes) (range_bytes bytes (end - at) at h)

-- the first n bytes, and the others after them
pub register_after-split : (r n : ℕ) (bytes : List ℕ) → AreBytes bytes → register_after r bytes ≡ register_after (register_after r (take n bytes)) (drop n bytes)
register_after-split r n bytes h =
    ap (register_after r) (sym (take-append-drop n bytes)) ∙ register_after-append r (take n bytes) (drop n bytes) (range_bytes bytes n 0 h)

register_after-eight : (r : ℕ) (bytes : List ℕ) → length bytes ≡ 8 → register_after r bytes ≡ times_x_to 64 (bit_xor r (number_of_bytes bytes))
unfolding register_after
register_after-eight r bytes long = let bits : 8 * length bytes ≡ 64 = omega arith in ap (λ n. times_x_to n (bit_xor r (number_of_bytes bytes))) bits

pub register_after-sixteen : (r : ℕ) (bytes : List ℕ) → AreBytes bytes → length bytes ≡ 16
    → register_after r bytes ≡ bit_xor (times_x_to 64 (number_of_bytes (drop 8 bytes))) (times_x_to 128 (bit_xor (number_of_bytes (take 8 bytes)) r))
register_after-sixteen r bytes h long =
    let low = number_of_bytes (take 8 bytes) in
    let high = number_of_bytes (drop 8 bytes) in
    let first : register_after r (take 8 bytes) ≡ times_x_to 64 (bit_xor low r) =
    register_after-eight r (take 8 bytes) (omega (arith, length-take {A = ℕ})) ∙ ap (times_x_to 64) (xor_comm r low) in
    register_after-split r 8 bytes h
    ∙ register_after-eight (register_after r (take 8 bytes)) (drop 8 bytes) (omega (arith, length-drop {A = ℕ}))
    ∙ ap (λ n. times_x_to 64 (bit_xor n high)) first
    ∙ times_x_to-xor 64 (times_x_to 64 (bit_xor low r)) high
    ∙ ap (λ n. bit_xor n (times_x_to 64 high)) (sym (times_x_to-add 64 64 (bit_xor low r)))
    ∙ xor_comm (times_x_to 128 (bit_xor low r)) (times_x_to 64 high)
