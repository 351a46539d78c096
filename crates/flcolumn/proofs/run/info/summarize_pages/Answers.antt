use Rattle.std.proofs.Common.{rules}
use Rattle.flcolumn.proofs.Stopped.{gives_more}
use Rattle.flcolumn.proofs.run.info.summarize_pages.Goals as goal

pub returns-in-End-clause-gives : goal.returns-in-End-clause-gives
returns-in-End-clause-gives g c = λ told.
    let end = rw c.in-End.is at (c.in_ok-next_page.ensures.gives told) in
    gives_more (c.pages.invariant.gives told) (end.end, end.gives)

pub pages-preserved : goal.pages-preserved
pages-preserved g c = record {
  failures = search rules;
  done = search rules;
  gives = λ told.
      let page = rw c.in-Page.is at (c.in_ok-next_page.ensures.gives told) in
      gives_more (c.pages.invariant.gives told) (_, page);
}
