use Rattle.std.proofs.Common.{[], ◌∷◌, refl, arith}
use Rattle.fastlanes_base.proofs.Tiles.{read_both}
use Rattle.fastlanes_base.proofs.tile.U64x4TileVectorU6424.load.Goals as goal

pub returns : goal.returns
returns c = read_both _ 2 c.args.from c.args.step (0 ∷ 1 ∷ 2 ∷ 3 ∷ []) _ (λ x. refl) (omega (arith, c.requires)) (omega (arith, c.requires)) refl refl
