use Rattle.std.proofs.Common.{refl}
use Rattle.fastlanes.proofs.Transposing.{one_more_tile, tile_transposed}
use Rattle.fastlanes.specs.Transposition.{rows_start}
use Rattle.fastlanes.proofs.transposition.tile_to_rows.Goals as goal

pub returns : goal.returns
returns g c = one_more_tile rows_start _ _ _ _ _ _ _ _ _ refl (tile_transposed _ c.args.tile c.requires.tile) (rw c.first_neighbour.ensures.is at c.transpose_tile.ensures) c.requires.tiles
