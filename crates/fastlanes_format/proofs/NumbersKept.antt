-- Bytes that stay, and the numbers in them.
use Rattle.std.proofs.Common.{◌≡◌, ℕ, ◌+◌, ◌-◌, ◌<◌, ◌≤◌, ◌∙◌, List, ap, arith, drop, get_or, sym, take}
use Rattle.std.proofs.lemmas.List.{drop-drop, get_or-drop, get_or-take, take-take}
use Rattle.fastlanes_format.specs.Format.{number_at}
use Rattle.fastlanes_format.proofs.NumberPlaces.{number_at-same}

module _ (bytes others : List ℕ) (end : ℕ) (same : take end bytes ≡ take end others) where
  -- a byte before the place up to which two lists are the same
  pub byte_before : (at : ℕ) → at < end → get_or bytes at 0 ≡ get_or others at 0
  byte_before at inside = sym (get_or-take end bytes at 0 inside) ∙ ap (λ b. get_or b at 0) same ∙ get_or-take end others at 0 inside

  -- a number before it
  pub number_before : (n at : ℕ) → at + n ≤ end → number_at n bytes at ≡ number_at n others at
  number_before n at inside = number_at-same n bytes others at at (λ k below. byte_before (at + k) (omega arith))

  -- the bytes before an earlier place
  pub first_before : (at : ℕ) → at ≤ end → take at bytes ≡ take at others
  first_before at inside = sym (take-take at end bytes inside) ∙ ap (take at) same ∙ take-take at end others inside

module _ (bytes others : List ℕ) (start : ℕ) (same : drop start bytes ≡ drop start others) where
  -- a byte behind the place from which on two lists are the same
  pub byte_behind : (at : ℕ) → start ≤ at → get_or bytes at 0 ≡ get_or others at 0
  byte_behind at inside =
      let place : start + (at - start) ≡ at = omega arith in
      rw (sym place) (sym (get_or-drop start bytes (at - start) 0) ∙ ap (λ b. get_or b (at - start) 0) same ∙ get_or-drop start others (at - start) 0)

  -- a number behind it
  pub number_behind : (n at : ℕ) → start ≤ at → number_at n bytes at ≡ number_at n others at
  number_behind n at inside = number_at-same n bytes others at at (λ k below. byte_behind (at + k) (omega arith))

  -- the bytes behind a later place
  pub last_behind : (at : ℕ) → start ≤ at → drop at bytes ≡ drop at others
  last_behind at inside =
      let place : start + (at - start) ≡ at = omega arith in
      rw (sym place) (sym (drop-drop (at - start) start bytes) ∙ ap (drop (at - start)) same ∙ drop-drop (at - start) start others)
