-- Blocks transposed and back.
use Rattle.std.proofs.Common.{◌≡◌, ℕ, ◌+◌, ◌*◌, ◌/◌, ◌%◌, ◌<◌, List, length, map, ap, sym, ◌∙◌, arith, inl, inr, lit<, zero-add}
use Rattle.std.proofs.lemmas.Bool.{cases_lt}
use Rattle.std.proofs.lemmas.Grind.{common_steps}
use Rattle.std.proofs.lemmas.List.{length-map}
use Rattle.std.proofs.lemmas.List.FromFn.{fill_by_all, get_or-map-range_with_len}
use Rattle.std.proofs.lemmas.Nat.{mod_below}
use Rattle.std.specs.List.{slice_index}
use Rattle.fastlanes_base.specs.Element.{IsLayout}
use Rattle.fastlanes_base.specs.Order.{order, place, transposed_index}
use Rattle.fastlanes_base.specs.Tile.{IsTileOf, TransposesTile}
use Rattle.fastlanes.specs.Transposition.{HoldsTiles, neighbours_start, original_index, original_value, rows_start, transposed, transposed_value, untransposed}

-- a lane of a transposed block is neighbours of the original
pub transposed_index-place : (t lanes row lane : ℕ) → IsLayout t lanes → row < t → lane < lanes → transposed_index (place row lane) ≡ transposed_index lane + row
transposed_index-place t lanes row lane layout in_rows in_lanes = grind (arith, common_steps, layout.size, layout.area)

-- from a multiple of their number on
pub transposed_index-lane : (t lanes lane : ℕ) → IsLayout t lanes → lane < lanes → transposed_index lane % t ≡ 0
transposed_index-lane t lanes lane layout in_lanes = grind (arith, common_steps, layout.size, layout.area)

-- one index undoes the other
pub transposed_index-original : (j : ℕ) → j < 1024 → transposed_index (original_index j) ≡ j
transposed_index-original j in_block = grind (arith, common_steps)

pub original_index-transposed : (i : ℕ) → i < 1024 → original_index (transposed_index i) ≡ i
original_index-transposed i in_block = grind (arith, common_steps)

pub transposed_index-lt : (i : ℕ) → i < 1024 → transposed_index i < 1024
transposed_index-lt i in_block = grind (arith, common_steps)

pub original_index-lt : (j : ℕ) → j < 1024 → original_index j < 1024
original_index-lt j in_block = grind (arith, common_steps)

-- before the first tile nothing is held
pub no_tiles : {E : Type 0} (number : E → ℕ) (start : ℕ → ℕ) (step : ℕ) (g : ℕ → ℕ) (u : List E) → length u ≡ 1024 → HoldsTiles start step 0 g (map number u)
no_tiles number start step g u long = record { long = rw length-map long; each = λ tile a b h a_in b_in. absurd (omega arith) }

-- one more tile
pub one_more_tile : (start : ℕ → ℕ) (from from_step to step n : ℕ) (g : ℕ → ℕ) (u v q : List ℕ) → to ≡ start n → IsTileOf 8 8 from from_step (start n) step u g
    → TransposesTile 8 8 from from_step to step u v q → HoldsTiles start step n g v → HoldsTiles start step (n + 1) g q
one_more_tile start from from_step to step n g u v q to_is is moved holds =
    let wrote = rw to_is at moved in
    record {
      long = moved.long ∙ holds.long;
      each = λ tile a b h a_in b_in. elim (cases_lt tile n) [
        | inl before ↦ moved.kept g (rw to_is is) (start tile + step * b + a) (holds.each tile a b before a_in b_in)
        | inr last ↦
            let same : tile ≡ n = omega arith in
            rw same (wrote.here g is a b a_in b_in)
      ];
    }

-- the tile of a transposed block is that of the original
pub tile_transposed : (u : List ℕ) (tile : ℕ) → tile < 16 → IsTileOf 8 8 (neighbours_start tile) 64 (rows_start tile) 128 u (transposed_value u)
tile_transposed u tile within a b a_in b_in =
    let there : transposed_index (rows_start tile + 128 * b + a) ≡ neighbours_start tile + 64 * a + b = grind (arith, common_steps) in
    ap (slice_index u) there

-- and the other way
pub tile_untransposed : (u : List ℕ) (tile : ℕ) → tile < 16 → IsTileOf 8 8 (rows_start tile) 128 (neighbours_start tile) 64 u (original_value u)
tile_untransposed u tile within a b a_in b_in =
    let there : original_index (neighbours_start tile + 64 * b + a) ≡ rows_start tile + 128 * a + b = grind (arith, common_steps) in
    ap (slice_index u) there

-- a block of sixteen tiles with the elements at their transposed indexes
pub tiles_transposed : (v u : List ℕ) → HoldsTiles rows_start 128 16 (transposed_value v) u → u ≡ transposed v
unfolding transposed
tiles_transposed v u holds = fill_by_all (transposed_value v) u 1024 0 holds.long (λ i in_block.
    let tile = i % 128 / 8 in
    let tile_in : tile < 16 = omega arith in
    let here : rows_start tile + 128 * (i / 128) + i % 8 ≡ i = omega arith in
    sym (ap (slice_index u) here) ∙ holds.each tile (i % 8) (i / 128) tile_in (mod_below i 8 (lit< tt)) (omega arith) ∙ ap (transposed_value v) here)

-- and a block of sixteen tiles with the elements back
pub tiles_untransposed : (v u : List ℕ) → HoldsTiles neighbours_start 64 16 (original_value v) u → u ≡ untransposed v
unfolding untransposed
tiles_untransposed v u holds = fill_by_all (original_value v) u 1024 0 holds.long (λ j in_block.
    let tile = slice_index order (j % 64 / 8) * 2 + j / 512 in
    let tile_in : tile < 16 = grind (arith, common_steps) in
    let here : neighbours_start tile + 64 * (j / 64 % 8) + j % 8 ≡ j = grind (arith, common_steps) in
    sym (ap (slice_index u) here) ∙ holds.each tile (j % 8) (j / 64 % 8) tile_in (mod_below j 8 (lit< tt)) (mod_below (j / 64) 8 (lit< tt)) ∙ ap (original_value v) here)

-- the element at a place of a transposed block
pub slice_index-transposed : (v : List ℕ) (i : ℕ) → i < 1024 → slice_index (transposed v) i ≡ slice_index v (transposed_index i)
unfolding transposed
slice_index-transposed v i in_block = get_or-map-range_with_len (λ i. slice_index v (transposed_index i)) 0 1024 i i 0 in_block (zero-add i)

pub slice_index-untransposed : (v : List ℕ) (j : ℕ) → j < 1024 → slice_index (untransposed v) j ≡ slice_index v (original_index j)
unfolding untransposed
slice_index-untransposed v j in_block = get_or-map-range_with_len (λ j. slice_index v (original_index j)) 0 1024 j j 0 in_block (zero-add j)

-- each undoes the other
pub untransposed-transposed : (v : List ℕ) → length v ≡ 1024 → untransposed (transposed v) ≡ v
unfolding untransposed
untransposed-transposed v long = sym (fill_by_all (λ j. slice_index (transposed v) (original_index j)) v 1024 0 long (λ j in_block.
    sym (slice_index-transposed v (original_index j) (original_index-lt j in_block) ∙ ap (slice_index v) (transposed_index-original j in_block))))

pub transposed-untransposed : (v : List ℕ) → length v ≡ 1024 → transposed (untransposed v) ≡ v
unfolding transposed
transposed-untransposed v long = sym (fill_by_all (λ i. slice_index (untransposed v) (transposed_index i)) v 1024 0 long (λ i in_block.
    sym (slice_index-untransposed v (transposed_index i) (transposed_index-lt i in_block) ∙ ap (slice_index v) (original_index-transposed i in_block))))

-- a block that is another one transposed gives that one back
pub moved_back : {E : Type 0} (number : E → ℕ) (v : List E) (u : List ℕ) → length v ≡ 1024 → u ≡ transposed (map number v) → untransposed u ≡ map number v
moved_back number v u long moved = ap untransposed moved ∙ untransposed-transposed (map number v) (rw length-map long)

pub moved_forth : {E : Type 0} (number : E → ℕ) (v : List E) (u : List ℕ) → length v ≡ 1024 → u ≡ untransposed (map number v) → transposed u ≡ map number v
moved_forth number v u long moved = ap transposed moved ∙ transposed-untransposed (map number v) (rw length-map long)
