use Rattle.std.proofs.Common.{◌≡◌, ℕ, List, arith, subst, sym, take}
use Rattle.std.proofs.lemmas.List.{take_all}
use Rattle.fastlanes_format.specs.Format.{ArePages, IsEnd, IsPage}
use Rattle.fastlanes_format.proofs.ErrorTables.{are_length_fine, no_error}
use Rattle.fastlanes_format.proofs.FirstPages.{are_end, are_page, on_err}
use Rattle.fastlanes_format.proofs.pages.check_next.Goals as goal

pub returns-in_err-len-clause-other : goal.returns-in_err-len-clause-other
returns-in_err-len-clause-other c =
    let a = c.args in
    let none : (pages : List (List ℕ)) → ¬ (ArePages a.bits a.checked a.values pages a.bytes.now) =
    λ pages are. let fine = are_length_fine a.bits a.checked a.values pages a.bytes.now are in let some = c.in_err-len.ensures.error in no_error _ _ _ some fine in
    on_err _ none

pub returns-then-values-ne0-clause-other : goal.returns-then-values-ne0-clause-other
returns-then-values-ne0-clause-other c = λ pages are.
    let next = are_page c.args.bits c.args.checked c.args.values pages c.args.bytes.now (omega arith) are in omega (arith, next.whole)

pub returns-in_err-count-clause-other : goal.returns-in_err-count-clause-other
returns-in_err-count-clause-other c =
    let a = c.args in
    let none : (pages : List (List ℕ)) → ¬ (ArePages a.bits a.checked a.values pages a.bytes.now) =
    λ pages are.
    let next = are_page a.bits a.checked a.values pages a.bytes.now (omega arith) are in
    c.in_err-count.ensures.other (subst (λ n. IsPage a.bits a.checked (take n a.bytes.now)) (sym c.in_ok-len.ensures.len) next.page) in
    on_err _ none

pub returns-clause-next : goal.returns-clause-next
returns-clause-next c = record {
  inside = c.in_ok-len.ensures.inside;
  room = c.if-values-ne0.false;
  page = c.in_ok-count.ensures.page;
  count = c.in_ok-count.ensures.values;
}

pub returns-in_err-all-clause-other : goal.returns-in_err-all-clause-other
returns-in_err-all-clause-other c =
    let a = c.args in
    let none : (pages : List (List ℕ)) → ¬ (ArePages a.bits a.checked a.values pages a.bytes.now) =
    λ pages are.
    let end = are_end a.bits a.checked a.values pages a.bytes.now (omega arith) are in
    let whole : take c.in_ok-len.len a.bytes.now ≡ a.bytes.now =
    take_all c.in_ok-len.len a.bytes.now (omega (arith, end.whole, end.len, c.in_ok-len.ensures.len)) in
    c.in_err-all.ensures.other (subst (IsEnd a.checked a.values) (sym whole) end) in
    on_err _ none

pub returns-then-bytes-len-clause-other : goal.returns-then-bytes-len-clause-other
returns-then-bytes-len-clause-other c = λ pages are.
    let a = c.args in
    let end = are_end a.bits a.checked a.values pages a.bytes.now (omega arith) are in
    omega (arith, end.whole, end.len, c.in_ok-len.ensures.len)
