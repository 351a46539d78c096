use Rattle.fastlanes.proofs.Transposing.{one_more_tile, tile_untransposed}
use Rattle.fastlanes.specs.Transposition.{neighbours_start}
use Rattle.fastlanes.proofs.transposition.tile_to_neighbours.Goals as goal

pub returns : goal.returns
returns g c = one_more_tile neighbours_start _ _ _ _ _ _ _ _ _ c.first_neighbour.ensures.is (tile_untransposed _ c.args.tile c.requires.tile) c.transpose_tile.ensures c.requires.tiles
