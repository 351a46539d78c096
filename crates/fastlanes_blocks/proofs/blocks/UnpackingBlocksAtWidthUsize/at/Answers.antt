use Rattle.std.proofs.Common.{ℕ, ◌*◌, List, map}
use Rattle.fastlanes_packing.specs.Packing.{UnpacksBlock}
use Rattle.fastlanes_blocks.proofs.Places.{blocks_more}
use Rattle.fastlanes_blocks.specs.Blocks.{block_at}
use Rattle.fastlanes_blocks.proofs.blocks.UnpackingBlocksAtWidthUsize.at.Goals as goal

pub loop-block-preserved : goal.loop-block-preserved
loop-block-preserved g c =
    let lanes = g.E.MachineWord.LANES in
    let w = g.N.Width.W in
    let number = g.E.MachineWord.number in
    blocks_more number 1024 c.loop-block.block c.loop-block.output c.unpack_block.new.output
    (λ b (ys : List ℕ). UnpacksBlock g.E.MachineWord.T lanes w (block_at (lanes * w) b (map number c.args.input.now)) ys)
    c.unpack_block.ensures.before c.loop-block.invariant c.unpack_block.ensures.unpacks
