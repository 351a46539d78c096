use Rattle.flcolumn.proofs.Stopped.{from_head_ok}
use Rattle.flcolumn.proofs.run.info.summarize.Goals as goal

pub returns-clause-gives : goal.returns-clause-gives
returns-clause-gives g c = λ told.
    from_head_ok c.summarize_pages.result c.in_ok-head.head.bits c.in_ok-head.head.checked _ (c.in_ok-head.ensures.gives told) (c.summarize_pages.ensures.gives told)
