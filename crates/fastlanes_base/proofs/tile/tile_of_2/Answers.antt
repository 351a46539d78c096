use Rattle.std.proofs.Common.{◌≡◌, ◌<◌, ℕ, ◌+◌, ◌*◌, ◌/◌, ◌%◌, map, ap, ◌∙◌, arith, slice_index}
use Rattle.fastlanes_base.proofs.Tiles.{layers_2, run_of_tile, tile_below}
use Rattle.fastlanes_base.proofs.tile.tile_of_2.Goals as goal

pub returns : goal.returns
returns g c =
    let u = map g.V.TileVector.number c.args.input.now in
    let from = c.args.from in
    let step = c.args.from_step in
    let to = c.args.to in
    let to_step = c.args.to_step in
    let rows : ℕ → ℕ → ℕ = λ i j. slice_index u (from + step * i + step * (j / 2 * 2) + j % 2) in
    let first : (j : ℕ) → j < 4 → g.V.TileVector.at c.load-a.result j ≡ rows 0 j = λ j h. c.load-a.ensures j h ∙ ap (λ k. slice_index u (k + step * (j / 2 * 2) + j % 2)) (omega arith) in
    let second : (j : ℕ) → j < 4 → g.V.TileVector.at c.load-b.result j ≡ rows 1 j = λ j h. c.load-b.ensures j h ∙ ap (λ k. slice_index u (k + step * (j / 2 * 2) + j % 2)) (omega arith) in
    let turned = c.weave-a.ensures rows first second in
    let run_0 = run_of_tile g.V.TileVector.number 2 4 from step from to to_step 0 u _ _ _ (omega arith) (omega arith) c.store.ensures.long c.store.ensures.here c.store.ensures.others (λ j h. (turned j h).0 ∙ layers_2 rows 0 j (omega arith) h) in
    let run_1 = run_of_tile g.V.TileVector.number 2 4 from step (from + 1) (to + to_step) to_step 1 u _ _ _ (omega arith) (omega arith) c.store-2.ensures.long c.store-2.ensures.here c.store-2.ensures.others (λ j h. (turned j h).1 ∙ layers_2 rows 1 j (omega arith) h) in
    tile_below 1 1 4 from step to to_step (from + 1) (to + to_step) u _ _ _ (omega arith) (omega arith) run_0 run_1
