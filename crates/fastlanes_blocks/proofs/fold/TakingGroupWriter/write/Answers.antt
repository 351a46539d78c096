use Rattle.std.proofs.Common.{subst}
use Rattle.fastlanes_blocks.proofs.Walked.{row_below, walked_more, walked_room}
use Rattle.fastlanes_blocks.proofs.fold.TakingGroupWriter.write.Goals as goal

pub take-requires-clause-took : goal.take-requires-clause-took
take-requires-clause-took g c = let (at, held) = c.requires.holds in (_, held.3)

pub returns-clause-holds : goal.returns-clause-holds
returns-clause-holds g c at (below, group, same, took) has =
    let layout = g.met.E.MachineWord.layout_law in
    let more = walked_more _ _ _ _ group _ at _ layout same c.requires.lanes c.requires.row has in
    let room = walked_room _ _ _ _ group _ at layout same c.requires.lanes c.requires.row in
    (below, group, same, subst (λ l. g.K.RowKernel.took c.args.width c.take.new.self l) more (rw c.index.ensures at c.take.ensures.took _ took room (row_below _ _ _ _ at _ below has)))
