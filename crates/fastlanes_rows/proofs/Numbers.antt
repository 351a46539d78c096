-- Numbers in a base that is a power of two.
use Rattle.std.proofs.Common.{◌≡◌, ℕ, ◌+◌, ◌-◌, ◌*◌, ◌/◌, ◌%◌, ◌^◌, ◌<◌, ◌≤◌, zero, suc, bit_or, refl, ap, sym, ◌∙◌, arith, lt_of_lt_of_le, add-zero, zero-add}
use Rattle.std.proofs.Math.Nat.{add_comm, mul_comm, mod-eq_of_lt, pow-le-pow_right}
use Rattle.std.proofs.lemmas.Nat.{pow-add, or_shifted, or_comm, shr_high, mod_low, shr-shr, pow_pos, mod-pow-add, mod_below, mul-add-lt}
use Rattle.fastlanes_base.specs.Digits.{number_in_base}

-- the lowest t bits of a number whose lowest s bits are c
pub joined_mod : (t s c n : ℕ) → s ≤ t → c < 2 ^ s → (c + n * 2 ^ s) % 2 ^ t ≡ n % 2 ^ (t - s) * 2 ^ s + c
joined_mod t s c n h b =
    let turn : c + n * 2 ^ s ≡ n * 2 ^ s + c = add_comm c (n * 2 ^ s) in
    let parts : t ≡ (t - s) + s = omega arith in
    rw turn (ap (λ (k : ℕ). (n * 2 ^ s + c) % 2 ^ k) parts
    ∙ mod-pow-add (n * 2 ^ s + c) (t - s) s
    ∙ rw (shr_high n s c b, mod_low n s c b) refl)

-- a word below 2 ^ s and a shifted one, joined by or
pub join_low : (t s c n : ℕ) → s ≤ t → c < 2 ^ s → bit_or c ((n * 2 ^ s) % 2 ^ t) ≡ (c + n * 2 ^ s) % 2 ^ t
join_low t s c n h b =
    let same : (n * 2 ^ s) % 2 ^ t ≡ n % 2 ^ (t - s) * 2 ^ s = simp (zero-add, add-zero) at (joined_mod t s 0 n h (pow_pos s)) in
    rw same (or_comm c _ ∙ or_shifted (n % 2 ^ (t - s)) s c b ∙ sym (joined_mod t s c n h b))

-- what the word has no room for
pub join_high : (t s c n : ℕ) → s ≤ t → c < 2 ^ s → (c + n * 2 ^ s) / 2 ^ t ≡ n / 2 ^ (t - s)
join_high t s c n h b =
    let turn : c + n * 2 ^ s ≡ n * 2 ^ s + c = add_comm c (n * 2 ^ s) in
    let parts : t ≡ s + (t - s) = omega arith in
    rw turn (ap (λ (k : ℕ). (n * 2 ^ s + c) / 2 ^ k) parts
    ∙ sym (shr-shr (n * 2 ^ s + c) s (t - s))
    ∙ rw (shr_high n s c b) refl)

-- two numbers with the same digits
pub same_digits : (bits : ℕ) (f g : ℕ → ℕ) → (n : ℕ) → ((k : ℕ) → k < n → f k ≡ g k) → number_in_base bits f n ≡ number_in_base bits g n
same_digits bits f g zero h = refl
same_digits bits f g (suc n) h =
    let e : f n ≡ g n = h n (omega arith) in
    let r : number_in_base bits f n ≡ number_in_base bits g n = same_digits bits f g n (λ k b. h k (omega arith)) in
    cc

-- the bits of a row that fill no word
pub row_below : (s w c v : ℕ) → c < 2 ^ s → c + v % 2 ^ w * 2 ^ s < 2 ^ (s + w)
row_below s w c v b =
    let low : v % 2 ^ w < 2 ^ w = mod_below v (2 ^ w) (pow_pos w) in
    let e : 2 ^ (s + w) ≡ 2 ^ w * 2 ^ s = rw (pow-add, mul_comm (2 ^ w)) refl in
    let m : v % 2 ^ w * 2 ^ s + c < 2 ^ s * 2 ^ w = mul-add-lt (v % 2 ^ w) (2 ^ s) c (2 ^ w) low b in
    grind arith

-- they are left as they are by a word of t bits
pub row_fits : (t s w c v : ℕ) → s + w ≤ t → c < 2 ^ s → (c + v % 2 ^ w * 2 ^ s) % 2 ^ t ≡ c + v % 2 ^ w * 2 ^ s
row_fits t s w c v h b = mod-eq_of_lt (lt_of_lt_of_le (row_below s w c v b) (pow-le-pow_right (omega arith) h))
