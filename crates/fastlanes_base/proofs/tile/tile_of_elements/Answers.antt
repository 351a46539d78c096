use Rattle.std.proofs.Common.{refl}
use Rattle.fastlanes_base.proofs.Tiles.{tile_below}
use Rattle.fastlanes_base.proofs.tile.tile_of_elements.Goals as goal

pub loop-b-preserved : goal.loop-b-preserved
loop-b-preserved g c number = tile_below c.loop-b.b 1 8 _ _ _ _ _ _ _ _ _ _ refl refl (c.loop-b.invariant number) (c.run_of_elements.ensures number c.args.to_step)
