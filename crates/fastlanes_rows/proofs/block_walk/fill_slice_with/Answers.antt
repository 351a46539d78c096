use Rattle.std.proofs.Common.{List, map, subst, sym}
use Rattle.std.proofs.lemmas.List.{length-map}
use Rattle.fastlanes_rows.specs.Block.{HasValues}
use Rattle.fastlanes_rows.proofs.Lists.{append_none, take_whole}
use Rattle.fastlanes_rows.proofs.Filling.{filled_by_lanes, filled_none}
use Rattle.fastlanes_rows.proofs.block_walk.fill_slice_with.Goals as goal

pub walk_block-requires-clause-done : goal.walk_block-requires-clause-done
walk_block-requires-clause-done g c = filled_none _ _ _ _ (rw (length-map, c.in-Some.ensures.cases.same, take_whole 1024 c.args.output.now c.requires.output) c.requires.output)

-- the block is all that there is
pub returns-in-Some : goal.returns-in-Some
returns-in-Some g c =
    subst (λ (l : List g.row.E.Denot). HasValues g.E.MachineWord.T g.E.MachineWord.LANES (g.R.GroupReader.value_at c.args.reader.now c.args.width) (map g.E.MachineWord.number l))
    (sym (append_none 1024 c.walk_block.new.writer c.args.output.now c.requires.output)) (filled_by_lanes _ _ _ _ c.walk_block.ensures.done)
