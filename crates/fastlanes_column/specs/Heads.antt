-- The heads of a column's blocks.
use Rattle.std.specs.Prelude.{ℕ, List, map}
use Rattle.fastlanes_column.specs.declared.frame.FrameHead.{FrameHead}

-- the widths of heads
abbrev pub widths : {X Y : Type 0} → List (FrameHead X Y) → List ℕ
widths heads = map (λ head. head.width) heads

-- the numbers of their references
abbrev pub references : {X Y : Type 0} → (X → ℕ) → List (FrameHead X Y) → List ℕ
references number heads = map (λ head. number head.reference) heads
