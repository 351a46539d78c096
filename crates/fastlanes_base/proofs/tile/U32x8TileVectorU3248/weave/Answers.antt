use Rattle.std.proofs.Common.{[], ◌∷◌, refl}
use Rattle.fastlanes_base.proofs.Tiles.{picked_woven}
use Rattle.fastlanes_base.proofs.tile.U32x8TileVectorU3248.weave.Goals as goal

pub returns : goal.returns
returns c rows first second j within =
    let low = picked_woven 4 8 0 (0 ∷ 8 ∷ 1 ∷ 9 ∷ 4 ∷ 12 ∷ 5 ∷ 13 ∷ []) _ _ rows c.fits-self.0 refl first second refl refl j within in
    let high = picked_woven 4 8 1 (2 ∷ 10 ∷ 3 ∷ 11 ∷ 6 ∷ 14 ∷ 7 ∷ 15 ∷ []) _ _ rows c.fits-self.0 refl first second refl refl j within in
    (low, high)
