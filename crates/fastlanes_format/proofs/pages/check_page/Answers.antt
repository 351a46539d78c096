use Rattle.std.proofs.Common.{ℕ, ◌+◌, ◌/◌, ◌∙◌, ap, arith, sym}
use Rattle.fastlanes_format.specs.Format.{blocks_of}
use Rattle.fastlanes_format.proofs.BlockPlaces.{heads_first}
use Rattle.fastlanes_format.proofs.pages.check_page.Goals as goal

pub returns-then-page-lt16-clause-other : goal.returns-then-page-lt16-clause-other
returns-then-page-lt16-clause-other c page = omega (arith, page.len)

pub returns-then-values-eq0-clause-other : goal.returns-then-values-eq0-clause-other
returns-then-values-eq0-clause-other c page = omega (arith, page.some, page.most)

pub returns-then-number_of_four-ne0-clause-other : goal.returns-then-number_of_four-ne0-clause-other
returns-then-number_of_four-ne0-clause-other c page = omega (arith, page.spare)

pub returns-then-page-blocks-clause-other : goal.returns-then-page-blocks-clause-other
returns-then-page-blocks-clause-other c page =
    let behind = heads_first c.args.page.now (blocks_of c.args.page.now) in
    omega (arith, behind, page.whole)

pub returns-clause-page : goal.returns-clause-page
returns-clause-page c =
    let same = ap (λ (n : ℕ). (n + 1023) / 1024) c.number_of_four-values.ensures.value in
    let ok = rw same at c.in_ok-check_heads.ensures in
    record {
      check = sym c.number_of_four-3.ensures.value ∙ c.if-number_of_four-checksum_of.false ∙ c.checksum_of.ensures;
      some = omega arith;
      most = omega arith;
      len = omega arith;
      spare = sym c.number_of_four-2.ensures.value ∙ c.if-number_of_four-ne0.false;
      heads = ok.heads;
      whole = sym c.if-branch-page.false ∙ ok.end;
    }
