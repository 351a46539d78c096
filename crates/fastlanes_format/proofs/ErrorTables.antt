-- Errors of the tables.
use Rattle.std.proofs.Common.{◌≡◌, ℕ, ◌+◌, ◌-◌, ◌<◌, ◌≤◌, ◌∙◌, Bool, List, [], ◌∷◌, None, Option, Some, true, false, ap, arith, length, subst, suc, sym, zero}
use Rattle.std.proofs.lemmas.Bool.Decides.{nat_tests}
use Rattle.std.specs.Prelude.{Err, IfErr, Ok, Result}
use Rattle.std.specs.Result.{IsErr, IsErrAnd}
use Rattle.fastlanes_format.specs.Errors.{block_error, blocks_error, error_of, first_error, length_error, moved}
use Rattle.fastlanes_format.specs.Format.{ArePages, head_len, longest_page}
use Rattle.fastlanes_format.proofs.BlockPlaces.{page_longest}
use Rattle.fastlanes_format.proofs.FirstPages.{are_inside, page_len_is}
use Rattle.fastlanes_format.specs.declared.flaw.Flaw.{Flaw}
use Rattle.fastlanes_format.specs.declared.flaw.FormatError.{FormatError}

-- the first block with an error is that of more blocks
pub first_block : (bits : ℕ) (page : List ℕ) (k n : ℕ) (e : FormatError) → blocks_error bits page k ≡ None → block_error bits page k ≡ Some e → k < n
    → blocks_error bits page n ≡ Some e
first_block bits page k n e none some below =
    let last : suc k + (n - suc k) ≡ n = omega (arith, below) in
    rw last at (stays (n - suc k))
  where
    stays : (more : ℕ) → blocks_error bits page (suc k + more) ≡ Some e
    stays zero =
        let here : suc k + 0 ≡ suc k = omega arith in
        rw here (ap (λ first. first_error first (block_error bits page k)) none ∙ some)
    stays (suc more) =
        let next : suc k + suc more ≡ suc (suc k + more) = omega arith in
        rw next (ap (λ first. first_error first (block_error bits page (suc k + more))) (stays more))

-- an error that `?` hands on
pub err_from : {T : Type 0} (r : Result T FormatError) (e : FormatError) → IsErr r × IsErrAnd r (λ x. x ≡ e) → error_of r ≡ Some e
err_from (Ok x) e is = let no : false ≡ true = is.0 in cc
err_from (Err x) e is = ap Some is.1

-- what is as long as it declares, and declares no more than the longest page has, has no error of its length
pub length_fine : (bits : ℕ) (bytes : List ℕ) → head_len bytes ≤ length bytes → head_len bytes ≤ longest_page bits → length_error bits bytes ≡ None
length_fine bits bytes inside longest = grind (arith, nat_tests)

-- pages have none
pub are_length_fine : (bits : ℕ) (checked : Bool) (values : ℕ) (pages : List (List ℕ)) (bytes : List ℕ) → ArePages bits checked values pages bytes
    → length_error bits bytes ≡ None
are_length_fine bits checked values [] bytes are = length_fine bits bytes (omega (arith, are.len, are.whole)) (omega (arith, are.len))
are_length_fine bits checked values (page ∷ pages) bytes are =
    let inside = are_inside bits checked values (page ∷ pages) bytes are in
    let longest = page_longest bits checked page are.3 in
    let len = page_len_is bits checked page are.0 are.3 in
    let here : head_len bytes ≤ longest_page bits = rw are.1 (omega (arith, longest, len)) in
    length_fine bits bytes inside here

-- an error is not none
pub no_error : (table : Option FormatError) (e : FormatError) (P : Type 0) → Some e ≡ table → table ≡ None → P
no_error table e P some none = let no : Some e ≡ None = some ∙ none in absurd (cc)

-- an error is its flaw and its offset
pub error_moved : (before : ℕ) (e here : FormatError) → e.flaw ≡ here.flaw → e.at ≡ here.at + before → e ≡ moved before here
error_moved before e here flaw at =
    let place : e.at ≡ before + here.at = omega (arith, at) in
    ap (λ (f : Flaw). let moved : FormatError = record { flaw = f; at = e.at } in moved) flaw
    ∙ ap (λ (n : ℕ). let moved : FormatError = record { flaw = here.flaw; at = n } in moved) place

-- what holds of an error holds of one that `?` hands on
pub if_err_from : {T : Type 0} (r : Result T FormatError) (P : FormatError → Type 0) (e : FormatError) → IsErr r × IsErrAnd r (λ x. x ≡ e) → P e → IfErr r P
if_err_from (Ok x) P e is p = tt
if_err_from (Err x) P e is p = subst P (sym is.1) p
