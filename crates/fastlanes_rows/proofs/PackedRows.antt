-- One more row in the words of a lane.
use Rattle.std.proofs.Common.{◌≡◌, ℕ, ◌+◌, ◌-◌, ◌*◌, ◌/◌, ◌%◌, ◌^◌, ◌<◌, ◌≤◌, suc, List, refl, ap, ◌∙◌, arith, lit<, add-one}
use Rattle.std.proofs.Math.Nat.{mod-eq_of_lt, zero-div, zero-mod, mul-mod_right, mul-div_cancel_left}
use Rattle.std.proofs.lemmas.Nat.{pow-add, pow_pos, shr_below, mod_below, shr_split, mod-mul-add, div-mul-add, div-add-mod'}
use Rattle.std.specs.List.{slice_index}
use Rattle.fastlanes_base.specs.Digits.{number_in_base}
use Rattle.fastlanes_rows.specs.Row.{HoldsDigits, with_row}
use Rattle.fastlanes_rows.proofs.Numbers.{same_digits, row_below}

-- where the bits of the next row begin
pub next_stays : (t w n : ℕ) → n * w % t + w < t → ((n + 1) * w / t ≡ n * w / t) × ((n + 1) * w % t ≡ n * w % t + w)
next_stays t w n h =
    let e : (n + 1) * w ≡ n * w / t * t + (n * w % t + w) = omega (arith, div-add-mod' (n * w) t) in
    (rw e (div-mul-add (n * w / t) t (n * w % t + w) h), rw e (mod-mul-add (n * w / t) t (n * w % t + w) h))

pub next_fills : (t w n : ℕ) → 0 < t → w ≤ t → t ≤ n * w % t + w → ((n + 1) * w / t ≡ n * w / t + 1) × ((n + 1) * w % t ≡ n * w % t + w - t)
next_fills t w n z h k =
    let b : n * w % t + w - t < t = omega (arith, mod_below (n * w) t z) in
    let e : (n + 1) * w ≡ (n * w / t + 1) * t + (n * w % t + w - t) = omega (arith, div-add-mod' (n * w) t) in
    (rw e (div-mul-add (n * w / t + 1) t (n * w % t + w - t) b), rw e (mod-mul-add (n * w / t + 1) t (n * w % t + w - t) b))

-- the worth of a row's lowest bit
pub row_worth : (t w n : ℕ) → 2 ^ (w * n) ≡ 2 ^ (t * (n * w / t)) * 2 ^ (n * w % t)
row_worth t w n =
    let e : w * n ≡ t * (n * w / t) + n * w % t = omega (arith, div-add-mod' (n * w) t) in
    ap (λ (k : ℕ). 2 ^ k) e ∙ pow-add 2 (t * (n * w / t)) (n * w % t)

-- the numbers with one more row
pub one_more : (t w n words carry rows v : ℕ) → words + carry * 2 ^ (t * (n * w / t)) ≡ rows
    → words + with_row t w n carry v * 2 ^ (t * (n * w / t)) ≡ rows + v % 2 ^ w * 2 ^ (w * n)
one_more t w n words carry rows v h = rw (row_worth t w n) (omega arith)

-- the words up to the k-th, which is x, where those below it are as before
pub number_put : (t lanes lane k : ℕ) (p q : List ℕ) (x : ℕ) → slice_index q (lanes * k + lane) ≡ x
    → ((j : ℕ) → j < k → slice_index q (lanes * j + lane) ≡ slice_index p (lanes * j + lane))
    → number_in_base t (λ j. slice_index q (lanes * j + lane) % 2 ^ t) (suc k)
    ≡ number_in_base t (λ j. slice_index p (lanes * j + lane) % 2 ^ t) k + x % 2 ^ t * 2 ^ (t * k)
number_put t lanes lane k p q x here before =
    let same : number_in_base t (λ j. slice_index q (lanes * j + lane) % 2 ^ t) k ≡ number_in_base t (λ j. slice_index p (lanes * j + lane) % 2 ^ t) k
    = same_digits t _ _ k (λ j h. ap (λ (y : ℕ). y % 2 ^ t) (before j h)) in
    rw (same, here) refl

-- a filled word and what is left of the row
pub filled_sum : (t a words x rows worth above : ℕ) → a ≡ words + x % 2 ^ t % 2 ^ t * worth → above ≡ 2 ^ t * worth → words + x * worth ≡ rows
    → a + x / 2 ^ t * above ≡ rows
filled_sum t a words x rows worth above e h s =
    let twice : x % 2 ^ t % 2 ^ t ≡ x % 2 ^ t = mod-eq_of_lt (mod_below x (2 ^ t) (pow_pos t)) in
    let parts : (x / 2 ^ t * 2 ^ t + x % 2 ^ t) * worth ≡ x * worth = ap (λ (y : ℕ). y * worth) (shr_split x t) in
    rw (e, h, twice) (omega arith)

-- the word is filled, and the next one begins
pub held_filled : (t lanes w lane n : ℕ) (at : ℕ → ℕ) (p q : List ℕ) (carry rest v : ℕ)
    → 0 < t → w ≤ t → at n ≡ v → t ≤ n * w % t + w
    → slice_index q (lanes * (n * w / t) + lane) ≡ with_row t w n carry v % 2 ^ t
    → ((j : ℕ) → j < n * w / t → slice_index q (lanes * j + lane) ≡ slice_index p (lanes * j + lane))
    → rest ≡ with_row t w n carry v / 2 ^ t
    → HoldsDigits t lanes w lane n at p carry → HoldsDigits t lanes w lane (n + 1) at q rest
held_filled t lanes w lane n at p q carry rest v z le is f here before re held =
    let next = next_fills t w n z le f in
    let words = number_put t lanes lane (n * w / t) p q (with_row t w n carry v % 2 ^ t) here before in
    let exponent : t * suc (n * w / t) ≡ t + t * (n * w / t) = omega arith in
    let above : 2 ^ (t * suc (n * w / t)) ≡ 2 ^ t * 2 ^ (t * (n * w / t)) = ap (λ (y : ℕ). 2 ^ y) exponent ∙ pow-add 2 t (t * (n * w / t)) in
    let low : n * w % t + w ≡ (n * w % t + w - t) + t = omega arith in
    record {
      below = rw (re, next.1) (shr_below (with_row t w n carry v) (n * w % t + w - t) t (rw (← low) (row_below (n * w % t) w carry v held.below)));
      sum = rw (re, next.0, add-one, add-one, is) (filled_sum t _ _ (with_row t w n carry v) _ _ _ words above (one_more t w n _ carry _ v held.sum));
    }

-- the word has room for more
pub held_stays : (t lanes w lane n : ℕ) (at : ℕ → ℕ) (p : List ℕ) (carry rest v : ℕ) → at n ≡ v → n * w % t + w < t
    → rest ≡ with_row t w n carry v
    → HoldsDigits t lanes w lane n at p carry → HoldsDigits t lanes w lane (n + 1) at p rest
held_stays t lanes w lane n at p carry rest v is f re held = record {
  below = rw (re, (next_stays t w n f).1) (row_below (n * w % t) w carry v held.below);
  sum = rw (re, (next_stays t w n f).0, add-one, is) (one_more t w n _ carry _ v held.sum);
}

-- a lane of which no row is packed yet
pub held_none : (t lanes w lane : ℕ) (at : ℕ → ℕ) (p : List ℕ) (carry : ℕ) → 0 < t → carry ≡ 0 → HoldsDigits t lanes w lane 0 at p carry
held_none t lanes w lane at p carry z e =
    let none : 0 * w ≡ 0 = omega arith in
    let words : 0 / t ≡ 0 = zero-div t in
    let left : 0 % t ≡ 0 = zero-mod t in
    record {
      below = rw (e, none, left) (lit< tt);
      sum = rw (none, words, e) (omega arith);
    }

-- a lane with all its rows
pub held_all : (t lanes w lane : ℕ) (at : ℕ → ℕ) (p : List ℕ) (carry : ℕ) → 0 < t → HoldsDigits t lanes w lane t at p carry
    → number_in_base t (λ k. slice_index p (lanes * k + lane) % 2 ^ t) w ≡ number_in_base w (λ row. at row % 2 ^ w) t
held_all t lanes w lane at p carry z held =
    let words : t * w / t ≡ w = mul-div_cancel_left w z in
    let left : t * w % t ≡ 0 = mul-mod_right t w in
    let below : carry < 2 ^ 0 = rw left at held.below in
    let none : carry ≡ 0 = omega arith in
    let sum = rw (words, none) at held.sum in
    omega (arith, sum)

-- rows with the same values
pub held_same : (t lanes w lane n : ℕ) (at other : ℕ → ℕ) (p : List ℕ) (carry : ℕ) → ((k : ℕ) → k < n → at k ≡ other k)
    → HoldsDigits t lanes w lane n at p carry → HoldsDigits t lanes w lane n other p carry
held_same t lanes w lane n at other p carry h held = record {
  below = held.below;
  sum = held.sum ∙ same_digits w _ _ n (λ k b. ap (λ (v : ℕ). v % 2 ^ w) (h k b));
}
