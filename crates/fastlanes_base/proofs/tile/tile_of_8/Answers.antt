use Rattle.std.proofs.Common.{ℕ, ◌+◌, ◌*◌, ◌/◌, ◌%◌, map, ap, ◌∙◌, arith, slice_index}
use Rattle.fastlanes_base.proofs.Tiles.{layers_8, run_of_tile, tile_below}
use Rattle.fastlanes_base.specs.Tile.{AreFour, layer}
use Rattle.fastlanes_base.proofs.tile.tile_of_8.Goals as goal

pub returns : goal.returns
returns g c =
    let u = map g.V.TileVector.number c.args.input.now in
    let from = c.args.from in
    let step = c.args.from_step in
    let to = c.args.to in
    let to_step = c.args.to_step in
    let rows : ℕ → ℕ → ℕ = λ i j. slice_index u (from + step * i + step * (j / 8 * 8) + j % 8) in
    let low : AreFour g.V.TileVector.at rows c.load-a.result c.load-b.result c.load-c.result c.load-d.result = λ j h. (c.load-a.ensures j h ∙ ap (λ k. slice_index u (k + step * (j / 8 * 8) + j % 8)) (omega arith), c.load-b.ensures j h ∙ ap (λ k. slice_index u (k + step * (j / 8 * 8) + j % 8)) (omega arith), c.load-c.ensures j h, c.load-d.ensures j h) in
    let high : AreFour g.V.TileVector.at (λ i. rows (4 + i)) c.load-e.result c.load-f.result c.load-g.result c.load-h.result = λ j h. (c.load-e.ensures j h, c.load-f.ensures j h, c.load-g.ensures j h, c.load-h.ensures j h) in
    let turned = c.layer_of_8-a-3.ensures (layer 8 (layer 8 rows)) (c.layer_of_8-a-2.ensures (layer 8 rows) (c.layer_of_8-a.ensures rows (low, high))) in
    let run_0 = run_of_tile g.V.TileVector.number 8 8 from step from to to_step 0 u _ _ _ (omega arith) (omega arith) c.store.ensures.long c.store.ensures.here c.store.ensures.others (λ j h. (turned.0 j h).0 ∙ layers_8 rows 0 j (omega arith) h) in
    let run_1 = run_of_tile g.V.TileVector.number 8 8 from step (from + 1) (to + to_step) to_step 1 u _ _ _ (omega arith) (omega arith) c.store-2.ensures.long c.store-2.ensures.here c.store-2.ensures.others (λ j h. (turned.0 j h).1 ∙ layers_8 rows 1 j (omega arith) h) in
    let run_2 = run_of_tile g.V.TileVector.number 8 8 from step (from + 2) (to + to_step * 2) to_step 2 u _ _ _ (omega arith) (omega arith) c.store-3.ensures.long c.store-3.ensures.here c.store-3.ensures.others (λ j h. (turned.0 j h).2 ∙ layers_8 rows 2 j (omega arith) h) in
    let run_3 = run_of_tile g.V.TileVector.number 8 8 from step (from + 3) (to + to_step * 3) to_step 3 u _ _ _ (omega arith) (omega arith) c.store-4.ensures.long c.store-4.ensures.here c.store-4.ensures.others (λ j h. (turned.0 j h).3 ∙ layers_8 rows 3 j (omega arith) h) in
    let run_4 = run_of_tile g.V.TileVector.number 8 8 from step (from + 4) (to + to_step * 4) to_step 4 u _ _ _ (omega arith) (omega arith) c.store-5.ensures.long c.store-5.ensures.here c.store-5.ensures.others (λ j h. (turned.1 j h).0 ∙ layers_8 rows 4 j (omega arith) h) in
    let run_5 = run_of_tile g.V.TileVector.number 8 8 from step (from + 5) (to + to_step * 5) to_step 5 u _ _ _ (omega arith) (omega arith) c.store-6.ensures.long c.store-6.ensures.here c.store-6.ensures.others (λ j h. (turned.1 j h).1 ∙ layers_8 rows 5 j (omega arith) h) in
    let run_6 = run_of_tile g.V.TileVector.number 8 8 from step (from + 6) (to + to_step * 6) to_step 6 u _ _ _ (omega arith) (omega arith) c.store-7.ensures.long c.store-7.ensures.here c.store-7.ensures.others (λ j h. (turned.1 j h).2 ∙ layers_8 rows 6 j (omega arith) h) in
    let run_7 = run_of_tile g.V.TileVector.number 8 8 from step (from + 7) (to + to_step * 7) to_step 7 u _ _ _ (omega arith) (omega arith) c.store-8.ensures.long c.store-8.ensures.here c.store-8.ensures.others (λ j h. (turned.1 j h).3 ∙ layers_8 rows 7 j (omega arith) h) in
    let to_1 = tile_below 1 1 8 from step to to_step (from + 1) (to + to_step) u _ _ _ (omega arith) (omega arith) run_0 run_1 in
    let to_2 = tile_below 2 1 8 from step to to_step (from + 2) (to + to_step * 2) u _ _ _ (omega arith) (omega arith) to_1 run_2 in
    let to_3 = tile_below 3 1 8 from step to to_step (from + 3) (to + to_step * 3) u _ _ _ (omega arith) (omega arith) to_2 run_3 in
    let to_4 = tile_below 4 1 8 from step to to_step (from + 4) (to + to_step * 4) u _ _ _ (omega arith) (omega arith) to_3 run_4 in
    let to_5 = tile_below 5 1 8 from step to to_step (from + 5) (to + to_step * 5) u _ _ _ (omega arith) (omega arith) to_4 run_5 in
    let to_6 = tile_below 6 1 8 from step to to_step (from + 6) (to + to_step * 6) u _ _ _ (omega arith) (omega arith) to_5 run_6 in
    tile_below 7 1 8 from step to to_step (from + 7) (to + to_step * 7) u _ _ _ (omega arith) (omega arith) to_6 run_7
