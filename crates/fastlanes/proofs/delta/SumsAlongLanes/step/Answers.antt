use Rattle.std.proofs.Common.{◌+◌}
use Rattle.fastlanes.proofs.Deltas.{row_undelta-next}
use Rattle.fastlanes.proofs.delta.SumsAlongLanes.step.Goals as goal

pub returns : goal.returns
returns g c base at lane row is told = (
  λ j within. row_undelta-next g.E.MachineWord.T base at (lane + j) row _ _ _ (told j within) (is j within) (c.plus-sums.ensures j within),
  λ j within. row_undelta-next g.E.MachineWord.T base at (lane + j) row _ _ _ (told j within) (is j within) (c.plus-sums.ensures j within),
)
