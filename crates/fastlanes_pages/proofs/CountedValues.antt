-- How many values a test holds of.
use Rattle.std.proofs.Common.{◌≡◌, ℕ, ◌+◌, ◌*◌, ◌≤◌, ◌∙◌, Bool, List, [], ◌∷◌, true, false, ap, arith, drop, length, take}
use Rattle.std.proofs.Math.Seq.{take-add}
use Rattle.std.proofs.lemmas.List.Sums.{sum_by-append, sum_by-cons}
use Rattle.std.specs.Prelude.{if◌then◌else◌}
use Rattle.fastlanes_pages.specs.Masks.{count_where}

one_most : (b : Bool) → (if b then 1 else 0) ≤ 1
one_most true = omega arith
one_most false = omega arith

-- no more than there are
pub count_most : (test : ℕ → Bool) (values : List ℕ) → count_where test values ≤ length values
count_most test [] = omega arith
count_most test (x ∷ values) =
    omega (arith, sum_by-cons (λ x. if test x then 1 else 0) x values, count_most test values, one_most (test x))

-- those of one block more
pub count_more : (test : ℕ → Bool) (values : List ℕ) (n : ℕ)
    → count_where test (take (1024 * (n + 1)) values) ≡ count_where test (take (1024 * n) values) + count_where test (take 1024 (drop (1024 * n) values))
count_more test values n =
    let next : 1024 * (n + 1) ≡ 1024 * n + 1024 = omega arith in
    ap (λ m. count_where test (take m values)) next ∙ ap (count_where test) (take-add (1024 * n) 1024 values)
    ∙ sum_by-append (λ x. if test x then 1 else 0) (take (1024 * n) values) (take 1024 (drop (1024 * n) values))
