use Rattle.fastlanes.proofs.delta.DifferencesAlongLanes.step.Goals as goal

pub returns : goal.returns
returns g c base at lane row is told = (λ j within. rw (is j within, told j within) at (c.minus.ensures j within), is)
