use Rattle.std.proofs.Common.{ℕ, ◌+◌, ◌*◌, ◌/◌, ◌%◌, map, ap, ◌∙◌, arith, slice_index}
use Rattle.fastlanes_base.proofs.Tiles.{layers_4, run_of_tile, tile_below}
use Rattle.fastlanes_base.specs.Tile.{AreFour, layer}
use Rattle.fastlanes_base.proofs.tile.tile_of_4.Goals as goal

pub returns : goal.returns
returns g c =
    let u = map g.V.TileVector.number c.args.input.now in
    let from = c.args.from in
    let step = c.args.from_step in
    let to = c.args.to in
    let to_step = c.args.to_step in
    let rows : ℕ → ℕ → ℕ = λ i j. slice_index u (from + step * i + step * (j / 4 * 4) + j % 4) in
    let loaded : AreFour g.V.TileVector.at rows c.load-a.result c.load-b.result c.load-c.result c.load-d.result = λ j h. (c.load-a.ensures j h ∙ ap (λ k. slice_index u (k + step * (j / 4 * 4) + j % 4)) (omega arith), c.load-b.ensures j h ∙ ap (λ k. slice_index u (k + step * (j / 4 * 4) + j % 4)) (omega arith), c.load-c.ensures j h, c.load-d.ensures j h) in
    let turned = c.layer_of_4-a-2.ensures (layer 4 rows) (c.layer_of_4-a.ensures rows loaded) in
    let run_0 = run_of_tile g.V.TileVector.number 4 8 from step from to to_step 0 u _ _ _ (omega arith) (omega arith) c.store.ensures.long c.store.ensures.here c.store.ensures.others (λ j h. (turned j h).0 ∙ layers_4 rows 0 j (omega arith) h) in
    let run_1 = run_of_tile g.V.TileVector.number 4 8 from step (from + 1) (to + to_step) to_step 1 u _ _ _ (omega arith) (omega arith) c.store-2.ensures.long c.store-2.ensures.here c.store-2.ensures.others (λ j h. (turned j h).1 ∙ layers_4 rows 1 j (omega arith) h) in
    let run_2 = run_of_tile g.V.TileVector.number 4 8 from step (from + 2) (to + to_step * 2) to_step 2 u _ _ _ (omega arith) (omega arith) c.store-3.ensures.long c.store-3.ensures.here c.store-3.ensures.others (λ j h. (turned j h).2 ∙ layers_4 rows 2 j (omega arith) h) in
    let run_3 = run_of_tile g.V.TileVector.number 4 8 from step (from + 3) (to + to_step * 3) to_step 3 u _ _ _ (omega arith) (omega arith) c.store-4.ensures.long c.store-4.ensures.here c.store-4.ensures.others (λ j h. (turned j h).3 ∙ layers_4 rows 3 j (omega arith) h) in
    let to_1 = tile_below 1 1 8 from step to to_step (from + 1) (to + to_step) u _ _ _ (omega arith) (omega arith) run_0 run_1 in
    let to_2 = tile_below 2 1 8 from step to to_step (from + 2) (to + to_step * 2) u _ _ _ (omega arith) (omega arith) to_1 run_2 in
    tile_below 3 1 8 from step to to_step (from + 3) (to + to_step * 3) u _ _ _ (omega arith) (omega arith) to_2 run_3
