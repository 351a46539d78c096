use Rattle.std.proofs.Common.{◌≡◌, ℕ, ◌∙◌, ◌++◌, ap, drop, length, rules, sym, take}
use Rattle.std.proofs.Math.Seq.{drop-append_seam, take-append_seam}
use Rattle.fastlanes_pages.proofs.writing.write_form.Goals as goal

pub returns-then-form-clause-sums : goal.returns-then-form-clause-sums
returns-then-form-clause-sums g c = λ _.
    let before = c.write_sums.new.before in
    let bytes = c.write_sums.new.bytes in
    let long : length before ≡ 128 = search rules in
    let first : take 128 (before ++ bytes) ≡ before = ap (λ (n : ℕ). take n (before ++ bytes)) (sym long) ∙ take-append_seam before bytes in
    let rest : drop 128 (before ++ bytes) ≡ bytes = ap (λ (n : ℕ). drop n (before ++ bytes)) (sym long) ∙ drop-append_seam before bytes in
    rw (first, rest) c.write_sums.ensures.sums

pub returns-then-form-clause-bases : goal.returns-then-form-clause-bases
returns-then-form-clause-bases g c = λ _.
    let before = c.write_sums.new.before in
    let bytes = c.write_sums.new.bytes in
    let long : length before ≡ 128 = search rules in
    let first : take 128 (before ++ bytes) ≡ before = ap (λ (n : ℕ). take n (before ++ bytes)) (sym long) ∙ take-append_seam before bytes in
    rw first c.write_sums.ensures.bases
