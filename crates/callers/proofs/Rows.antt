-- The first and the last row of a lane, for loops over its rows.
use Rattle.std.proofs.Common.{◌≡◌, ℕ, ◌*◌, ◌/◌, ◌%◌, ◌^◌, ◌<◌, List, arith, sym, ◌∙◌}
use Rattle.std.proofs.Math.Nat.{zero-div, zero-mod}
use Rattle.std.proofs.lemmas.Nat.{pow_pos}
use Rattle.fastlanes.specs.Rows.{CarriesWords, words_begun}
use Rattle.fastlanes.proofs.Begun.{begun_all, begun_whole}

-- before the first row no words are begun
pub begun_first : (t w : ℕ) → 0 < t → 0 ≡ words_begun t w 0
begun_first t w some =
    let none : 0 * w ≡ 0 = omega arith in
    sym (begun_whole t w 0 some (rw none (zero-mod t)) ∙ rw none (zero-div t))

-- and none are carried
pub carries_first : (n t lanes w lane : ℕ) (p : List ℕ) (at : ℕ → ℕ) → CarriesWords n t lanes w lane 0 p at
carries_first n t lanes w lane p at j within = record { is = λ some. absurd (omega (arith, zero-mod t, some)) }

-- nor are words written, nor bits of values left
pub none_written : (t w : ℕ) → 0 ≡ 0 * w / t
none_written t w =
    let none : 0 * w ≡ 0 = omega arith in
    rw none (sym (zero-div t))

pub none_left : (t w x : ℕ) → x ≡ 0 → x < 2 ^ (0 * w % t)
none_left t w x none = rw none (pow_pos (0 * w % t))

-- after the last row all words are begun
pub begun_last : (t w row : ℕ) → 0 < t → row ≡ t → words_begun t w row ≡ w
begun_last t w row some end = rw end (begun_all t w some)
