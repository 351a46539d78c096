-- The word that a row tells the next one.
use Rattle.std.proofs.Common.{◌≡◌, ℕ, ◌+◌, ◌*◌, ◌/◌, ◌%◌, ◌<◌, ◌≤◌, List, ap, sym, ◌∙◌, arith}
use Rattle.std.specs.List.{slice_index}
use Rattle.fastlanes_rows.specs.Row.{CarriesWord}
use Rattle.fastlanes_rows.proofs.PackedRows.{next_fills}

-- a row that straddles tells the second of its words
pub carries_next : (t lanes w lane row : ℕ) (p : List ℕ) (x : ℕ) → 0 < t → w ≤ t → t < row * w % t + w
    → slice_index p (lanes * (row * w / t) + lane + lanes) ≡ x → CarriesWord t lanes w lane (row + 1) p x
carries_next t lanes w lane row p x z le more is = record {
  is = λ some.
      let (place, _) = next_fills t w row z le (omega arith) in
      rw place (ap (slice_index p) (omega arith) ∙ is);
}

-- the next word of a lane, by its place and by that of the word before it
pub next_word : (lanes lane k : ℕ) (p : List ℕ) (x : ℕ) → x ≡ slice_index p (lanes * (k + 1) + lane) → slice_index p (lanes * k + lane + lanes) ≡ x
next_word lanes lane k p x is =
    let place : lanes * k + lane + lanes ≡ lanes * (k + 1) + lane = omega arith in
    ap (slice_index p) place ∙ sym is
