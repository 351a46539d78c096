use Rattle.std.proofs.Common.{arith, length, rules}
use Rattle.std.proofs.lemmas.Result.{err_from_is_err_and}
use Rattle.fastlanes_column_streams.proofs.Refused.{no_end_counts, refuses_before, rest_first, rest_more}
use Rattle.fastlanes_column_streams.proofs.PagesTogether.{finds_all, finds_more, finds_none}
use Rattle.fastlanes_column_streams.proofs.find.find_stream.Goals as goal

pub pages-init : goal.pages-init
pages-init g c = record {
  reads = search rules;
  length = search rules;
  done = search rules;
  low = search rules;
  room = search rules;
  rest = λ told. rest_first g.E.MachineWord.T c.args.checked _;
  pages = λ told. finds_none g.E.MachineWord.T g.E.MachineWord.LANES c.args.checked _ _ _;
}

pub returns-in-End-clause-finds : goal.returns-in-End-clause-finds
returns-in-End-clause-finds g c = λ told.
    let end = rw c.in-End.is at (c.in_ok-all.ensures.gives told) in
    let all = rw c.in-End.is at c.in_ok-all.ensures.found in
    finds_all g.E.MachineWord.T g.E.MachineWord.LANES c.args.checked c.pages.done c.in-End.all c.args.numbers.now c.pages.found (c.pages.invariant.pages told) end all

pub pages-preserved : goal.pages-preserved
pages-preserved g c =
    let page = rw c.T.ensures at (rw c.in-Page.is at c.in_ok-all.ensures.found) in
    record {
      reads = search rules;
      length = search rules;
      done = omega (arith, c.pages.invariant.done, page.page.most, page.count);
      low = omega (arith, c.pages.invariant.low, c.pages.invariant.done, page.room, page.page.some, page.count);
      room = search rules;
      rest = λ told.
          let gives = rw c.in-Page.is at (c.in_ok-all.ensures.gives told) in
          rest_more g.E.MachineWord.T c.args.checked c.pages.done c.in-Page.len c.in-Page.count _ c.next_page.new.bytes (c.pages.invariant.rest told) page gives;
      pages = λ told.
          let gives = rw c.in-Page.is at (c.in_ok-all.ensures.gives told) in
          finds_more g.E.MachineWord.T g.E.MachineWord.LANES c.args.checked c.pages.done c.in-Page.len c.in-Page.count c.next_page.new.bytes
          c.args.numbers.now c.pages.found c.pick_page.new.found (c.pages.invariant.pages told) page gives (c.pick_page.ensures.picks c.args.checked page.page);
    }

pub returns-in_err-all-clause-refuses : goal.returns-in_err-all-clause-refuses
returns-in_err-all-clause-refuses g c = λ told.
    let p = err_from_is_err_and c.from_residual.result c.from_residual.ensures.1 in
    let l = c.pages in
    let why = rw (c.T.ensures, l.invariant.room) at (c.in_err-all.ensures.refuses told) in
    rw (p.1, p.2) (refuses_before g.E.MachineWord.T c.args.checked l.done (length c.args.bytes.now) _ _ c.in_err-all.field-0.0 (l.invariant.rest told) why)

pub returns-clause-refuses : goal.returns-clause-refuses
returns-clause-refuses g c = λ told are.
    no_end_counts g.E.MachineWord.T c.args.checked c.pages.done _ _ (c.pages.invariant.rest told) (omega (arith, c.pages.invariant.low)) are
