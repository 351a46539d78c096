-- The values of a ramp, and how many words they are packed to.
use Rattle.std.proofs.Common.{◌≡◌, ℕ, ◌+◌, ◌-◌, ◌*◌, ◌%◌, ◌^◌, ◌≤◌, sym, ap, ◌∙◌, arith}
use Rattle.std.proofs.Math.Nat.{mod-add-mod, mul-le-mul_left, mul_comm}
use Rattle.std.proofs.Math.Pow.{mod-mod-pow}

-- the next value, counted in words of t bits
pub next-value : (i w t : ℕ) → w ≤ t → (i % 2 ^ w + 1) % 2 ^ t % 2 ^ w ≡ (i + 1) % 2 ^ w
next-value i w t fits =
    let whole : t - w + w ≡ t = omega arith in
    ap (λ n. (i % 2 ^ w + 1) % 2 ^ n % 2 ^ w) (sym whole) ∙ mod-mod-pow (i % 2 ^ w + 1) (t - w) w ∙ mod-add-mod i (2 ^ w) 1

-- a packed block has at most 1024 words
pub words_le : (t lanes w : ℕ) → t * lanes ≡ 1024 → w ≤ t → lanes * w ≤ 1024
words_le t lanes w area fits = omega (arith, mul-le-mul_left lanes fits, mul_comm t lanes)
