use Rattle.std.proofs.Common.{◌∙◌, ◌≤◌, ◌/◌, arith, length, rules}
use Rattle.std.proofs.Math.Nat.{mul-le-mul_right}
use Rattle.std.proofs.lemmas.List.{length-take-le}
use Rattle.std.proofs.lemmas.Result.{err_from_is_err_and}
use Rattle.fastlanes_column_streams.proofs.Refused.{no_end_counts, refuses_before, rest_first, rest_more}
use Rattle.fastlanes_column_streams.proofs.PagesTogether.{decodes_all, decodes_more, decodes_none}
use Rattle.fastlanes_column_streams.proofs.decode.decode_stream.Goals as goal

pub pages-init : goal.pages-init
pages-init g c = record {
  none_failed = (search rules, search rules);
  done = search rules;
  low = search rules;
  room = search rules;
  rest = λ told. rest_first g.E.MachineWord.T c.args.checked _;
  pages = λ told tells. decodes_none g.E.MachineWord.T g.E.MachineWord.LANES c.args.checked _ _;
}

pub returns-in-End-clause-decodes : goal.returns-in-End-clause-decodes
returns-in-End-clause-decodes g c = λ told tells.
    let end = rw c.in-End.is at (c.in_ok-all.ensures.gives told) in
    let all = rw c.in-End.is at c.in_ok-all.ensures.found in
    decodes_all g.E.MachineWord.T g.E.MachineWord.LANES c.args.checked c.pages.done c.in-End.all (c.pages.invariant.pages told tells) end all
    (c.in_ok-finish-in-End.ensures.delivers tells)

pub pages-preserved : goal.pages-preserved
pages-preserved g c =
    let page = rw c.T.ensures at (rw c.in-Page.is at c.in_ok-all.ensures.found) in
    record {
      none_failed = (search rules, search rules);
      done = omega (arith, c.pages.invariant.done, page.page.most, page.count);
      low = omega (arith, c.pages.invariant.low, c.pages.invariant.done, page.room, page.page.some, page.count);
      room = search rules;
      rest = λ told.
          let gives = rw c.in-Page.is at (c.in_ok-all.ensures.gives told) in
          rest_more g.E.MachineWord.T c.args.checked c.pages.done c.in-Page.len c.in-Page.count _ c.next_page.new.bytes (c.pages.invariant.rest told) page gives;
      pages = λ told tells.
          let gives = rw c.in-Page.is at (c.in_ok-all.ensures.gives told) in
          let writes = c.in_ok-decode_page-in-Page.ensures.values tells c.args.checked page.page in
          decodes_more g.E.MachineWord.T g.E.MachineWord.LANES c.args.checked c.pages.done c.in-Page.len c.in-Page.count c.next_page.new.bytes
          (c.pages.invariant.pages told tells) page gives writes;
    }

pub decode_page-requires-clause-values : goal.decode_page-requires-clause-values
decode_page-requires-clause-values g c =
    let page = rw c.T.ensures at (rw c.in-Page.is at c.in_ok-all.ensures.found) in
    length-take-le c.in-Page.count c.pages.values (omega (arith, page.page.most, page.count)) ∙ page.count

pub decode_page-requires-clause-room : goal.decode_page-requires-clause-room
decode_page-requires-clause-room g c =
    let page = rw c.T.ensures at (rw c.in-Page.is at c.in_ok-all.ensures.found) in
    let most : c.in-Page.count ≤ 65536 = omega (arith, page.page.most, page.count) in
    let long = length-take-le c.in-Page.count c.pages.values (omega (arith, most)) in
    rw long (omega (arith, mul-le-mul_right (g.E.MachineWord.T / 8) most))

pub returns-in_err-all-clause-refuses : goal.returns-in_err-all-clause-refuses
returns-in_err-all-clause-refuses g c = λ told.
    let p = err_from_is_err_and c.from_residual.result c.from_residual.ensures.1 in
    let l = c.pages in
    let why = rw (c.T.ensures, l.invariant.room) at (c.in_err-all.ensures.refuses told) in
    rw (p.1, p.2) (refuses_before g.E.MachineWord.T c.args.checked l.done (length c.args.bytes.now) _ _ c.in_err-all.field-0.0 (l.invariant.rest told) why)

pub returns-clause-refuses : goal.returns-clause-refuses
returns-clause-refuses g c = λ told are.
    no_end_counts g.E.MachineWord.T c.args.checked c.pages.done _ _ (c.pages.invariant.rest told) (omega (arith, c.pages.invariant.low)) are
