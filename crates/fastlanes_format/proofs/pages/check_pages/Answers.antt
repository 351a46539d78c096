use Rattle.std.proofs.Common.{◌≡◌, ℕ, ◌+◌, ◌++◌, List, [], ◌∷◌, arith, drop, length, subst, sym, take}
use Rattle.std.specs.Prelude.{sum_by}
use Rattle.std.proofs.lemmas.List.{drop-drop, length-drop, length-take-le, take_rest}
use Rattle.std.proofs.lemmas.List.Sums.{sum_by-cons}
use Rattle.fastlanes_format.specs.Format.{ArePages, BeginWithPages, BeginsWithPage, values_of}
use Rattle.fastlanes_format.proofs.ErrorTables.{error_moved}
use Rattle.fastlanes_format.proofs.FirstPages.{next_after, next_before, next_most}
use Rattle.fastlanes_format.proofs.PagesBefore.{begin_more, error_behind, one_more}
use Rattle.fastlanes_format.proofs.pages.check_pages.Goals as goal

pub returns-in-Ok-End-clause-pages : goal.returns-in-Ok-End-clause-pages
returns-in-Ok-End-clause-pages c =
    let next = rw (take_rest c.args.bytes.now c.pages.place, c.in-Ok-End.field-0-is) at c.in-Ok-End.ensures.next in
    let all = c.pages.invariant.are [] next.0 in
    (all.0, all.1, omega (arith, all.2, next.1))

pub pages-preserved : goal.pages-preserved
pages-preserved c =
    let a = c.args in
    let l = c.pages in
    let here = drop l.place a.bytes.now in
    let len = c.in-Ok-Page.len in
    let count = c.in-Ok-Page.count in
    let next = rw (take_rest a.bytes.now l.place, c.in-Ok-Page.field-0-is) at c.in-Ok-Page.ensures.next in
    let behind : drop len here ≡ drop (l.place + len) a.bytes.now = drop-drop len l.place a.bytes.now in
    let most = next_most a.bits a.checked l.values here len count next in
    record {
      place = omega (arith, next.inside, length-drop l.place a.bytes.now);
      count = omega (arith, most, l.invariant.count);
      are = λ pages are.
          let all = l.invariant.are (take len here ∷ pages) (next_before a.bits a.checked l.values here len count next pages (subst (ArePages a.bits a.checked (l.values + count) pages) (sym behind) are)) in
          (all.0, all.1, omega (arith, all.2, next.count, sum_by-cons values_of (take len here) pages));
      others = λ all are.
          let pages = l.invariant.others all are in
          let after = next_after a.bits a.checked l.values here len count next pages.0 pages.1 in
          (after.0, subst (ArePages a.bits a.checked (l.values + count) after.0) behind after.1);
      passed =
          let before = l.invariant.passed in
          let more = begin_more a.bits a.checked 0 before.0 a.bytes.now here len count before.1 (next_from before.0 before.2 next) in
          let page = take len here in
          let long : length page ≡ len = length-take-le len here next.inside in (
            before.0 ++ (page ∷ []),
            subst (BeginWithPages a.bits a.checked 0 (before.0 ++ (page ∷ [])) a.bytes.now) behind more,
            one_more values_of before.0 page l.values count before.2 next.count,
            one_more length before.0 page l.place len before.3 (sym long),
          );
    }
  where
    next_from : (pages : List (List ℕ)) → c.pages.values ≡ sum_by values_of pages
        → BeginsWithPage c.args.bits c.args.checked c.pages.values (drop c.pages.place c.args.bytes.now) c.in-Ok-Page.len c.in-Ok-Page.count
        → BeginsWithPage c.args.bits c.args.checked (0 + sum_by values_of pages) (drop c.pages.place c.args.bytes.now) c.in-Ok-Page.len c.in-Ok-Page.count
    next_from pages all next =
        let same : c.pages.values ≡ 0 + sum_by values_of pages = omega (arith, all) in
        rw same at next

pub returns-in-Err-clause-other : goal.returns-in-Err-clause-other
returns-in-Err-clause-other c = λ all are.
    let pages = c.pages.invariant.others all are in
    (rw (take_rest c.args.bytes.now c.pages.place) at c.in-Err.ensures.other) pages.0 pages.1

pub returns-in-Err-clause-error : goal.returns-in-Err-clause-error
returns-in-Err-clause-error c =
    let before = c.pages.invariant.passed in
    let some = rw (take_rest c.args.bytes.now c.pages.place, before.2) at c.in-Err.ensures.error in
    error_behind c.args.bits c.args.checked c.args.bytes.now before.0 (drop c.pages.place c.args.bytes.now) c.in-Err.e c.behind.result before.1 some
    (rw (← before.3) (error_moved c.pages.place c.behind.result c.in-Err.e c.behind.ensures.flaw c.behind.ensures.at))
