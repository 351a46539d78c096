-- Sums and differences modulo a power of two.
use Rattle.std.proofs.Common.{◌≡◌, ◌↔◌, ℕ, ◌+◌, ◌-◌, ◌%◌, ◌^◌, ◌<◌, ◌≤◌, ap, sym, subst, ◌∙◌, arith, lit<, lt_of_lt_of_le}
use Rattle.std.proofs.Math.Nat.{add_comm, add-mod_right, mod-add-mod, mod-eq_of_lt, pow-le-pow_right}
use Rattle.std.proofs.lemmas.Nat.{mod_below, pow_pos}
use Rattle.fastlanes.specs.Frame.{word_difference, word_sum}

-- either number may come first
pub word_sum-comm : (t x y : ℕ) → word_sum t x y ≡ word_sum t y x
word_sum-comm t x y = ap (λ (n : ℕ). n % 2 ^ t) (add_comm x y)

-- what is added comes off again
pub difference-sum : (t x y : ℕ) → x < 2 ^ t → y < 2 ^ t → word_difference t (word_sum t x y) y ≡ x
difference-sum t x y small below =
    let whole : x + y + (2 ^ t - y) ≡ x + 2 ^ t = omega arith in
    mod-add-mod (x + y) (2 ^ t) (2 ^ t - y) ∙ ap (λ (n : ℕ). n % 2 ^ t) whole ∙ add-mod_right x (2 ^ t) ∙ mod-eq_of_lt small

-- what is taken off can be added again
pub sum-difference : (t x y : ℕ) → x < 2 ^ t → y < 2 ^ t → word_sum t (word_difference t x y) y ≡ x
sum-difference t x y small below =
    let whole : x + (2 ^ t - y) + y ≡ x + 2 ^ t = omega arith in
    mod-add-mod (x + (2 ^ t - y)) (2 ^ t) y ∙ ap (λ (n : ℕ). n % 2 ^ t) whole ∙ add-mod_right x (2 ^ t) ∙ mod-eq_of_lt small

-- from the lowest w bits of the difference, exactly where there are no more
pub sum-low_difference : (t w x y : ℕ) → w ≤ t → x < 2 ^ t → y < 2 ^ t
    → (word_sum t (word_difference t x y % 2 ^ w) y ≡ x) ↔ (word_difference t x y < 2 ^ w)
sum-low_difference t w x y le small below = (
  λ same.
      let low : word_difference t x y % 2 ^ w < 2 ^ t = lt_of_lt_of_le (mod_below (word_difference t x y) (2 ^ w) (pow_pos w)) (pow-le-pow_right (lit< tt) le) in
      let is : word_difference t x y ≡ word_difference t x y % 2 ^ w = ap (λ (n : ℕ). word_difference t n y) (sym same) ∙ difference-sum t (word_difference t x y % 2 ^ w) y low below in
      subst (λ (n : ℕ). n < 2 ^ w) (sym is) (mod_below (word_difference t x y) (2 ^ w) (pow_pos w)),
  λ fits. ap (λ (n : ℕ). word_sum t n y) (mod-eq_of_lt fits) ∙ sum-difference t x y small below,
)
