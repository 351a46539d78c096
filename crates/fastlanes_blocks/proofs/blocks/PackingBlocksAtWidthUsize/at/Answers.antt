use Rattle.std.proofs.Common.{◌≡◌, ℕ, ◌*◌, List, length, map, rules}
use Rattle.fastlanes_packing.specs.Packing.{PacksBlock}
use Rattle.fastlanes_blocks.proofs.Places.{block_end-le, blocks_more}
use Rattle.fastlanes_blocks.specs.Blocks.{block_at}
use Rattle.fastlanes_blocks.proofs.blocks.PackingBlocksAtWidthUsize.at.Goals as goal

pub pack_block-requires-clause-output : goal.pack_block-requires-clause-output
pack_block-requires-clause-output g c =
    let size = g.E.MachineWord.LANES * g.N.Width.W in
    let long : length c.loop-block.output ≡ size * c.args.count = search rules in
    rw (c.words_a_block-words.ensures, long) (block_end-le size c.loop-block.block c.args.count c.loop-block-test.true)

pub loop-block-preserved : goal.loop-block-preserved
loop-block-preserved g c =
    let lanes = g.E.MachineWord.LANES in
    let w = g.N.Width.W in
    let number = g.E.MachineWord.number in
    blocks_more number (lanes * w) c.loop-block.block c.loop-block.output c.pack_block.new.output
    (λ b (ys : List ℕ). PacksBlock g.E.MachineWord.T lanes w (block_at 1024 b (map number c.args.input.now)) ys)
    (rw c.words_a_block-words.ensures at c.pack_block.ensures.before) c.loop-block.invariant (rw c.words_a_block-words.ensures at c.pack_block.ensures.packs)
