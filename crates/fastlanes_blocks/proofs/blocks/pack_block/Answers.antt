use Rattle.std.proofs.Common.{◌+◌, ◌*◌, refl, rules}
use Rattle.fastlanes_packing.specs.Packing.{PacksBlock}
use Rattle.fastlanes_blocks.proofs.Places.{of_blocks}
use Rattle.fastlanes_blocks.proofs.blocks.pack_block.Goals as goal

pub returns-clause-packs : goal.returns-clause-packs
returns-clause-packs g c =
    let from = 1024 * c.args.block in
    let start = c.args.words * c.args.block in
    of_blocks g.E.MachineWord.number (PacksBlock g.E.MachineWord.T g.E.MachineWord.LANES g.N.Width.W) c.args.input.now c.args.output.now c.at.new.output
    c.args.block 1024 from (from + 1024) c.args.words start (start + c.args.words)
    refl refl refl refl (search rules) (search rules) c.at.ensures
