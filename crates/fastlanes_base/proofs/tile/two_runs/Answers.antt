use Rattle.std.proofs.Common.{arith}
use Rattle.fastlanes_base.proofs.Tiles.{tile_beside}
use Rattle.fastlanes_base.proofs.tile.two_runs.Goals as goal

pub returns : goal.returns
returns g c = tile_beside 2 4 4 _ _ _ _ _ _ _ _ _ _ (omega arith) (omega arith) c.tile_of_2.ensures c.tile_of_2-2.ensures
