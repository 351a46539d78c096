use Rattle.std.proofs.Common.{◌≡◌, ℕ, ◌<◌, ◌++◌, ◌∙◌, List, [], ap, arith, length, subst, sym, take}
use Rattle.std.proofs.Math.Seq.{take-length}
use Rattle.std.proofs.lemmas.Result.{on_err_weaker}
use Rattle.fastlanes_format.proofs.FirstPages.{on_err}
use Rattle.fastlanes_format.specs.Format.{IsPage, head_len, values_of}
use Rattle.fastlanes_column_streams.specs.Refusals.{AreNoPages}
use Rattle.fastlanes_column_streams.proofs.Refused.{no_first_page, no_next}
use Rattle.fastlanes_column_streams.proofs.next.check_whole.Goals as goal

pub returns-in_err-values-clause-other : goal.returns-in_err-values-clause-other
returns-in_err-values-clause-other c =
    let a = c.args in
    let is = c.is_whole_page.ensures in
    let none : (rest : List ℕ) → (length a.bytes.now < head_len a.bytes.now → rest ≡ []) → AreNoPages a.bits a.checked a.before (a.bytes.now ++ rest) =
    λ rest ended. no_first_page a.bits a.checked a.before a.bytes.now rest (is.page c.if-is_whole_page.true).0 (is.some c.if-is_whole_page.true) c.in_err-values.ensures.other in
    on_err _ none

pub returns-then-is_whole_page-clause-next : goal.returns-then-is_whole_page-clause-next
returns-then-is_whole_page-clause-next c =
    let a = c.args in
    let all : take (length a.bytes.now) a.bytes.now ≡ a.bytes.now = take-length a.bytes.now in
    record {
      inside = omega arith;
      room = (c.is_whole_page.ensures.page c.if-is_whole_page.true).1;
      page = subst (IsPage a.bits a.checked) (sym all) c.in_ok-values.ensures.page;
      count = c.in_ok-values.ensures.values ∙ ap values_of (sym all);
    }

pub returns-clause-other : goal.returns-clause-other
returns-clause-other c = on_err_weaker c.check_next.result (λ none rest ended. no_next c.args.bits c.args.checked c.args.before c.args.bytes.now rest c.requires.no_more ended (c.is_whole_page.ensures.other c.if-is_whole_page.false) none) c.check_next.ensures.other
