use Rattle.std.proofs.Common.{ℕ, map}
use Rattle.fastlanes_base.specs.Tile.{TransposesTile}
use Rattle.fastlanes_base.proofs.tile.tile_of_elements.Given as goal

abbrev pub invariant-loop-b : goal.invariant-loop-b
invariant-loop-b g l = (number : g.row.E.Denot → ℕ) → TransposesTile l.b 8 l.from l.from_step l.to l.to_step (map number l.input) (map number l.initial.output) (map number l.output)
