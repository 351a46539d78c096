use Rattle.std.proofs.Common.{arith}
use Rattle.fastlanes_format.proofs.BlockPlaces.{block_inside}
use Rattle.fastlanes_format.proofs.block.open_block.Goals as goal

pub number_of_four-start-requires : goal.number_of_four-start-requires
number_of_four-start-requires c = omega (arith, (block_inside c.requires.page.0 c.requires.page.1 c.args.page.now c.args.block c.requires.page.2 c.requires.block).0)

pub bounds-page-head : goal.bounds-page-head
bounds-page-head c = omega (arith, (block_inside c.requires.page.0 c.requires.page.1 c.args.page.now c.args.block c.requires.page.2 c.requires.block).0)

pub bounds-page-head-2 : goal.bounds-page-head-2
bounds-page-head-2 c = omega (arith, (block_inside c.requires.page.0 c.requires.page.1 c.args.page.now c.args.block c.requires.page.2 c.requires.block).0)

pub bounds-page-head-3 : goal.bounds-page-head-3
bounds-page-head-3 c = omega (arith, (block_inside c.requires.page.0 c.requires.page.1 c.args.page.now c.args.block c.requires.page.2 c.requires.block).0)

pub bounds-page-head-4 : goal.bounds-page-head-4
bounds-page-head-4 c = omega (arith, (block_inside c.requires.page.0 c.requires.page.1 c.args.page.now c.args.block c.requires.page.2 c.requires.block).0)

pub number_of_eight-requires : goal.number_of_eight-requires
number_of_eight-requires c = omega (arith, (block_inside c.requires.page.0 c.requires.page.1 c.args.page.now c.args.block c.requires.page.2 c.requires.block).0)

pub slice_bounds-result-end : goal.slice_bounds-result-end
slice_bounds-result-end c =
    let inside = block_inside c.requires.page.0 c.requires.page.1 c.args.page.now c.args.block c.requires.page.2 c.requires.block in
    let head = c.requires.page.2.heads c.args.block c.requires.block in
    omega (arith, inside.1, head.place)
