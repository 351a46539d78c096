-- Pages at the beginning of bytes, and what follows them.
use Rattle.std.proofs.Common.{◌≡◌, ℕ, ◌+◌, ◌++◌, ◌∙◌, Bool, List, [], ◌∷◌, Some, arith, drop, length, refl, sym, take}
use Rattle.std.specs.Prelude.{sum_by}
use Rattle.std.proofs.lemmas.List.{take-append-drop}
use Rattle.std.proofs.lemmas.List.Sums.{sum_by-append, sum_by-cons}
use Rattle.fastlanes_format.specs.declared.flaw.FormatError.{FormatError}
use Rattle.fastlanes_format.specs.Errors.{IsErrorBehind, moved, next_error}
use Rattle.fastlanes_format.specs.Format.{BeginWithPages, BeginsWithPage, values_of}

-- one page more
pub begin_more : (bits : ℕ) (checked : Bool) (before : ℕ) (pages : List (List ℕ)) (bytes rest : List ℕ) (len count : ℕ)
    → BeginWithPages bits checked before pages bytes rest → BeginsWithPage bits checked (before + sum_by values_of pages) rest len count
    → BeginWithPages bits checked before (pages ++ (take len rest ∷ [])) bytes (drop len rest)
begin_more bits checked before [] bytes rest len count begin next =
    let here : before + 0 ≡ before = omega arith in
    (drop len rest, begin ∙ sym (take-append-drop len rest), rw here at next.room, next.page, refl)
begin_more bits checked before (page ∷ pages) bytes rest len count begin next =
    let all : before + sum_by values_of (page ∷ pages) ≡ before + values_of page + sum_by values_of pages = omega (arith, sum_by-cons values_of page pages) in (
      begin.0,
      begin.1,
      begin.2,
      begin.3,
      begin_more bits checked (before + values_of page) pages begin.0 rest len count begin.4 (rw all at next),
    )

-- a sum over one page more
pub one_more : (f : List ℕ → ℕ) (pages : List (List ℕ)) (page : List ℕ) (sum more : ℕ) → sum ≡ sum_by f pages → more ≡ f page
    → sum + more ≡ sum_by f (pages ++ (page ∷ []))
one_more f pages page sum more all here = omega (arith, sum_by-append f pages (page ∷ []), sum_by-cons f page [], all, here)

-- the error of what follows pages
pub error_behind : (bits : ℕ) (checked : Bool) (bytes : List ℕ) (pages : List (List ℕ)) (rest : List ℕ) (here e : FormatError)
    → BeginWithPages bits checked 0 pages bytes rest → Some here ≡ next_error bits checked (sum_by values_of pages) rest
    → e ≡ moved (sum_by length pages) here → IsErrorBehind bits checked bytes e
error_behind bits checked bytes pages rest here e begin some at =
    record { pages = pages; rest = rest; begin = begin; here = here; is = sym some; at = at }
