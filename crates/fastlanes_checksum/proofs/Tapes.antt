-- The tape that bytes are divided on, step by step.
use Rattle.std.proofs.Common.{◌≡◌, ℕ, List, ◌+◌, ◌<◌, ◌∙◌, arith, inl, inr, length, refl, replicate, set, sym}
use Rattle.std.proofs.lemmas.Bool.{cases_lt}
use Rattle.std.proofs.lemmas.List.{get_or-replicate, get_or-set_other, get_or-set_same, get_or_past, length-replicate}
use Rattle.fastlanes_checksum.specs.Multiple.{byte_at, sum_at}
use Rattle.fastlanes_checksum.proofs.Quotients.{sum_at-same, sum_of_quotient, with_five}

with_five-same : (t u : ℕ → ℕ) (i b : ℕ) → ((k : ℕ) → k < 1672 + i → t k ≡ u k) → with_five t i b ≡ with_five u i b
with_five-same t u i b same =
    rw (same i (omega arith), same (112 + i) (omega arith), same (312 + i) (omega arith), same (432 + i) (omega arith), same (1152 + i) (omega arith)) refl

pub quotient_step : (tape bytes : List ℕ) (i : ℕ) → 1672 + i < length tape → ((j : ℕ) → j < i → byte_at bytes j ≡ sum_at (byte_at tape) j)
    → (j : ℕ) → j < i + 1 → byte_at bytes j ≡ sum_at (byte_at (set tape (1672 + i) (with_five (byte_at tape) i (byte_at bytes i)))) j
quotient_step tape bytes i inside before j below =
    let byte = with_five (byte_at tape) i (byte_at bytes i) in
    let next = set tape (1672 + i) byte in
    let others : (k : ℕ) → k < 1672 + i → byte_at tape k ≡ byte_at next k = λ k under. sym (get_or-set_other tape (1672 + i) k byte 0 (λ e. omega (arith, under, e))) in
    elim (cases_lt j i) [
      | inl earlier ↦ before j earlier ∙ sum_at-same (byte_at tape) (byte_at next) j (λ k least. others k (omega (arith, least, earlier)))
      | inr later ↦
          let here : j ≡ i = omega (arith, below, later) in
          let written : byte_at next (1672 + i) ≡ with_five (byte_at next) i (byte_at bytes i) =
          get_or-set_same tape (1672 + i) byte 0 inside ∙ with_five-same (byte_at tape) (byte_at next) i (byte_at bytes i) others in
          rw here (sum_of_quotient (byte_at next) i (byte_at bytes i) written)
    ]

pub zeros_everywhere : (n i : ℕ) → byte_at (replicate n 0) i ≡ 0
zeros_everywhere n i =
    elim (cases_lt i n) [
      | inl inside ↦ get_or-replicate n i 0 0 inside
      | inr behind ↦ get_or_past (replicate n 0) i 0 (omega (arith, behind, length-replicate {A = ℕ}))
    ]
