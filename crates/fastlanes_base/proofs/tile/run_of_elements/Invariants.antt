use Rattle.std.proofs.Common.{ℕ, map}
use Rattle.fastlanes_base.specs.Tile.{TransposesTile}
use Rattle.fastlanes_base.proofs.tile.run_of_elements.Given as goal

abbrev pub invariant-loop-a : goal.invariant-loop-a
invariant-loop-a g l = (number : g.row.E.Denot → ℕ) (to_step : ℕ) → TransposesTile 1 l.a l.from l.from_step l.to to_step (map number l.input) (map number l.initial.output) (map number l.output)
