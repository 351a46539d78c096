use Rattle.std.proofs.Common.{map}
use Rattle.fastlanes_column.specs.Heads.{references, widths}
use Rattle.fastlanes_column.proofs.WrittenHeads.{ServeBelow}
use Rattle.fastlanes_column.proofs.column.write_heads.Given as goal

abbrev pub invariant-loop-b : goal.invariant-loop-b
invariant-loop-b g l = ServeBelow g.E.FastLanes.T l.b (widths l.heads) (references g.E.FastLanes.number l.heads) (map (map g.E.FastLanes.number) l.blocks)
