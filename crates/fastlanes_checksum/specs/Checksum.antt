-- The checksum CRC-32C. A number stands for a polynomial whose coefficients are 0 and 1, modulo 2: bit i is that of x ^ (31 - i).
-- So the sum of two is `bit_xor`, and bytes, as one number with the lowest first, are a polynomial.
use Rattle.std.specs.Prelude.{◌≡◌, ℕ, ◌<◌, ◌≤◌, ◌+◌, ◌-◌, ◌*◌, ◌/◌, ◌%◌, ◌^◌, zero, suc, List, [], ◌∷◌, bit_xor, length}

-- x ^ 32, less the generator of Castagnoli, which is what it is modulo that
abbrev pub x_to_32 : ℕ
x_to_32 = 0x82F63B78

-- a polynomial times x, modulo the generator
abbrev pub times_x : ℕ → ℕ
times_x p = bit_xor (p / 2) (p % 2 * x_to_32)

-- a polynomial times x ^ n, modulo the generator
unfoldable pub times_x_to : ℕ → ℕ → ℕ
times_x_to zero p = p
times_x_to (suc n) p = times_x_to n (times_x p)

-- the bytes as one number in the base 256, the lowest first
unfoldable pub number_of_bytes : List ℕ → ℕ
number_of_bytes [] = 0
number_of_bytes (byte ∷ bytes) = byte + 256 * number_of_bytes bytes

-- what bytes make of a register: their sum with it, times x to the number of their bits, modulo the generator
unfoldable pub register_after : ℕ → List ℕ → ℕ
register_after register bytes = times_x_to (8 * length bytes) (bit_xor register (number_of_bytes bytes))

-- the checksum: the register is all ones before the bytes, and each of its bits is turned round after them
unfoldable pub checksum : List ℕ → ℕ
checksum bytes = bit_xor (register_after (2 ^ 32 - 1) bytes) (2 ^ 32 - 1)

-- the bytes are as many, and differ in a burst of bits, at most 32 in a row, which begins at the bit `from`
pub record DifferInOneBurst (a b : List ℕ) : Type 0 where
  pub burst : ℕ
  pub from : ℕ
  pub as_many : length a ≡ length b
  pub some : 0 < burst
  pub within : burst < 2 ^ 32
  pub inside : from ≤ 8 * length a
  pub differ : bit_xor (number_of_bytes a) (number_of_bytes b) ≡ burst * 2 ^ from
