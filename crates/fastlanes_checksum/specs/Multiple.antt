-- A multiple of the generator that has six terms: x to 8 times each of `exponents`. So bytes are divided by it first, and what is left
-- of them, which has the same remainder by the generator, by the generator itself.
use Rattle.std.specs.Prelude.{ℕ, ◌≡◌, ◌≤◌, ◌+◌, ◌*◌, ◌-◌, zero, suc, List, [], ◌∷◌, ◌++◌, bit_xor, get_or, length}
use Rattle.fastlanes_checksum.specs.Checksum.{register_after}

-- how many bytes are left of a division
abbrev pub span : ℕ
span = 1672

-- how many bytes are divided at a time, at most
abbrev pub piece : ℕ
piece = 8 * span

-- the exponents of the terms, in bytes
abbrev pub exponents : List ℕ
exponents = 0 ∷ 112 ∷ 312 ∷ 432 ∷ 1152 ∷ 1672 ∷ []

-- the sum of what there is for each of these
unfoldable pub sum_over : (ℕ → ℕ) → List ℕ → ℕ
sum_over term [] = 0
sum_over term (e ∷ es) = bit_xor (term e) (sum_over term es)

-- the byte at a place, and 0 behind the last one
abbrev pub byte_at : List ℕ → ℕ → ℕ
byte_at bytes i = get_or bytes i 0

-- n bytes as one number in the base 256, the lowest first
unfoldable pub number_of_first : (ℕ → ℕ) → ℕ → ℕ
number_of_first byte zero = 0
number_of_first byte (suc n) = byte 0 + 256 * number_of_first (λ i. byte (suc i)) n

-- a byte of a quotient times the multiple: the sum of the quotient's bytes at the exponents, from a place on
unfoldable pub sum_at : (ℕ → ℕ) → ℕ → ℕ
sum_at byte i = sum_over (λ e. byte (e + i)) exponents

-- what a quotient that ends with this span adds to the bytes that follow those it was made of, as one number
unfoldable pub pending : (ℕ → ℕ) → ℕ
pending byte = sum_over (λ e. number_of_first (λ i. byte (e + i)) (span - e)) exponents

-- as a register, what was pending before these bytes and what is pending after them lead to the same, whatever follows that is no
-- shorter than a span
abbrev pub AreDivided : List ℕ → ℕ → ℕ → Type 0
AreDivided bytes before after = (rest : List ℕ) → span ≤ length rest → register_after before (bytes ++ rest) ≡ register_after after rest
