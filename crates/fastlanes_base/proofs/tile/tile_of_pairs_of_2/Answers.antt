use Rattle.std.proofs.Common.{arith}
use Rattle.fastlanes_base.proofs.Tiles.{tile_below}
use Rattle.fastlanes_base.proofs.tile.tile_of_pairs_of_2.Goals as goal

pub returns : goal.returns
returns g c =
    let four = tile_below 2 2 8 _ _ _ _ _ _ _ _ _ _ (omega arith) (omega arith) c.two_runs.ensures c.two_runs-2.ensures in
    let six = tile_below 4 2 8 _ _ _ _ _ _ _ _ _ _ (omega arith) (omega arith) four c.two_runs-3.ensures in
    tile_below 6 2 8 _ _ _ _ _ _ _ _ _ _ (omega arith) (omega arith) six c.two_runs-4.ensures
