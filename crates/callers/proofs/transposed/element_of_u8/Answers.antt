use Rattle.std.proofs.Common.{◌<◌}
use Rattle.fastlanes.specs.Order.{place}
use Rattle.fastlanes.proofs.Callers.{layout_8}
use Rattle.fastlanes.proofs.Places.{place-lt}
use Rattle.callers.proofs.transposed.element_of_u8.Goals as goal

pub bounds-block-index : goal.bounds-block-index
bounds-block-index c =
    let in_block : place c.args.row c.args.lane < 1024 = place-lt 8 128 c.args.row c.args.lane layout_8 c.requires.row c.requires.lane in
    rw c.index.ensures in_block
