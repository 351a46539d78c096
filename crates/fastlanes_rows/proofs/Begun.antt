-- How many words the rows of a lane reach into.
use Rattle.std.proofs.Common.{rules, ◌≡◌, ◌≢◌, ℕ, ◌+◌, ◌-◌, ◌*◌, ◌/◌, ◌%◌, ◌<◌, ◌≤◌, Fits, w64, ap, ◌∙◌, arith, inl, inr}
use Rattle.std.proofs.Math.Nat.{mul-div_cancel_left, mul-mod_right}
use Rattle.std.proofs.lemmas.Bool.{cases_lt}
use Rattle.std.proofs.lemmas.Nat.{div-add-mod', div-mul-add, mod_below}
use Rattle.fastlanes_base.specs.Element.{IsWordSize}
use Rattle.fastlanes_rows.specs.Rows.{words_begun}

-- the bits below x reach into whole words and a part of one
reaches : (t x whole part : ℕ) → x ≡ whole * t + part → 0 < part → part ≤ t → (x + (t - 1)) / t ≡ whole + 1
reaches t x whole part is some fits =
    let e : x + (t - 1) ≡ (whole + 1) * t + (part - 1) = omega (arith, is) in
    rw e (div-mul-add (whole + 1) t (part - 1) (omega arith))

pub begun_whole : (t w row : ℕ) → 0 < t → row * w % t ≡ 0 → words_begun t w row ≡ row * w / t
begun_whole t w row z none =
    let e : row * w + (t - 1) ≡ row * w / t * t + (t - 1) = omega (arith, div-add-mod' (row * w) t) in
    ap (λ x. x / t) e ∙ div-mul-add (row * w / t) t (t - 1) (omega arith)

pub begun_part : (t w row : ℕ) → 0 < t → 0 < row * w % t → words_begun t w row ≡ row * w / t + 1
begun_part t w row z some =
    let below : row * w % t < t = mod_below (row * w) t z in
    reaches t (row * w) (row * w / t) (row * w % t) (omega (arith, div-add-mod' (row * w) t)) some (omega arith)

-- a row in one word, and a row in two
pub begun_one : (t w row : ℕ) → 0 < w → row * w % t + w ≤ t → words_begun t w (row + 1) ≡ row * w / t + 1
begun_one t w row some fits =
    let e : (row + 1) * w ≡ row * w / t * t + (row * w % t + w) = omega (arith, div-add-mod' (row * w) t) in
    reaches t ((row + 1) * w) (row * w / t) (row * w % t + w) e (omega arith) fits

pub begun_two : (t w row : ℕ) → 0 < t → w ≤ t → t < row * w % t + w → words_begun t w (row + 1) ≡ row * w / t + 1 + 1
begun_two t w row z narrow more =
    let below : row * w % t < t = mod_below (row * w) t z in
    let e : (row + 1) * w ≡ (row * w / t + 1) * t + (row * w % t + w - t) = omega (arith, div-add-mod' (row * w) t) in
    reaches t ((row + 1) * w) (row * w / t + 1) (row * w % t + w - t) e (omega arith) (omega arith)

-- the first of a row's two words is begun before it, and the second is not
pub begun_two_part : (t w row : ℕ) → 0 < t → w ≤ t → t < row * w % t + w → words_begun t w row ≡ row * w / t + 1
begun_two_part t w row z narrow more = begun_part t w row z (omega arith)

pub begun_two_more : (t w row : ℕ) → 0 < t → w ≤ t → t < row * w % t + w → words_begun t w (row + 1) ≢ words_begun t w row
begun_two_more t w row z narrow more same = omega (arith, begun_two t w row z narrow more, begun_two_part t w row z narrow more)

-- where the first word of a row is not begun before it, the row begins with the word, and else rows before have bits there
pub begun_before : (t w row : ℕ) → 0 < t → words_begun t w row < row * w / t + 1 → words_begun t w row ≡ row * w / t
begun_before t w row z fewer = elim (cases_lt 0 (row * w % t)) [
  | inl inside ↦ absurd (omega (arith, begun_part t w row z inside))
  | inr none ↦ begun_whole t w row z (omega arith)
]

pub begun_inside : (t w row : ℕ) → 0 < t → row * w / t + 1 ≡ words_begun t w row → 0 < row * w % t
begun_inside t w row z same = elim (cases_lt 0 (row * w % t)) [
  | inl inside ↦ inside
  | inr none ↦ absurd (omega (arith, begun_whole t w row z (omega arith)))
]

-- rows of no bits reach into no more words
pub begun_none : (t w row : ℕ) → w ≡ 0 → words_begun t w row ≡ words_begun t w (row + 1)
begun_none t w row none = ap (λ x. (x + (t - 1)) / t) (omega (arith, none))

-- all rows reach into all words
pub begun_all : (t w : ℕ) → 0 < t → words_begun t w t ≡ w
begun_all t w z = begun_whole t w t z (mul-mod_right t w) ∙ mul-div_cancel_left w z

-- the place where the bits of a row begin is a machine number
pub start_fits : (t w row : ℕ) → IsWordSize t → w ≤ t → row < t → Fits w64 (row * w)
start_fits t w row size narrow in_rows = search rules
