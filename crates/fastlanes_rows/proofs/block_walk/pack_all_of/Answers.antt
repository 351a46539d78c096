use Rattle.std.proofs.Common.{◌≡◌, ◌<◌, ◌*◌, length, map, refl, arith, rules}
use Rattle.std.proofs.lemmas.List.{length-map}
use Rattle.fastlanes_rows.proofs.Holding.{block_all, block_none}
use Rattle.fastlanes_rows.specs.Block.{PacksValues}
use Rattle.fastlanes_rows.proofs.block_walk.pack_all_of.Goals as goal

pub walk_block-requires-clause-done : goal.walk_block-requires-clause-done
walk_block-requires-clause-done g c =
    let some : 0 < g.E.MachineWord.T = omega (arith, g.met.E.MachineWord.bits_law) in
    let long : length (map g.E.MachineWord.number c.args.packed.now) ≡ g.E.MachineWord.LANES * c.args.width = rw length-map c.requires.words in
    (c.words_a_lane-bits.ensures _ c.requires.words, block_none _ _ _ _ _ _ some refl long)

pub returns : goal.returns
returns g c =
    let packs : PacksValues g.E.MachineWord.T g.E.MachineWord.LANES c.args.width (g.R.GroupReader.value_at c.args.reader.now c.args.width) (map g.E.MachineWord.number c.walk_block.new.writer.packed.now)
    = block_all _ _ _ _ _ _ c.walk_block.ensures.done.1 in
    search (rules, packs)
