use Rattle.std.proofs.Common.{ℕ, ◌*◌, ◌<◌, map}
use Rattle.fastlanes_packing.specs.Packing.{UnpacksBlock}
use Rattle.fastlanes_blocks.specs.Blocks.{block_at}
use Rattle.fastlanes_blocks.proofs.blocks.UnpackingBlocksAtWidthUsize.at.Given as goal

abbrev pub invariant-loop-block : goal.invariant-loop-block
invariant-loop-block g l = (b : ℕ) → b < l.block → UnpacksBlock g.E.MachineWord.T g.E.MachineWord.LANES g.N.Width.W
    (block_at (g.E.MachineWord.LANES * g.N.Width.W) b (map g.E.MachineWord.number l.input)) (block_at 1024 b (map g.E.MachineWord.number l.output))
