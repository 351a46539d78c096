use Rattle.std.proofs.Common.{arith}
use Rattle.fastlanes_base.proofs.Tiles.{tile_below}
use Rattle.fastlanes_base.proofs.tile.tile_of_pairs_of_4.Goals as goal

pub returns : goal.returns
returns g c = tile_below 4 4 8 _ _ _ _ _ _ _ _ _ _ (omega arith) (omega arith) c.tile_of_4.ensures c.tile_of_4-2.ensures
