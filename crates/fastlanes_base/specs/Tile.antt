-- Tiles: parts of a block that are transposed as a whole, from one list to another.
use Rattle.std.specs.Prelude.{◌≡◌, ℕ, ◌+◌, ◌*◌, ◌/◌, ◌%◌, ◌<◌, List, length, slice_index}

-- g has the tile of u at its places: run b of it, of n elements from `to` on and every `to_step` places, is element b of n runs
-- of u, from `from` on and every `from_step` places
abbrev pub IsTileOf : (rows n from from_step to to_step : ℕ) → List ℕ → (ℕ → ℕ) → Type 0
IsTileOf rows n from from_step to to_step u g = (a b : ℕ) → a < n → b < rows → g (to + to_step * b + a) ≡ slice_index u (from + from_step * a + b)

-- the list q is v with a tile of u written to it: whatever elements g has, among them the tile's, q has those of the tile, and
-- keeps each one that v has
pub record TransposesTile (rows n from from_step to to_step : ℕ) (u v q : List ℕ) : Type 0 where
  pub long : length q ≡ length v
  pub here : (g : ℕ → ℕ) → IsTileOf rows n from from_step to to_step u g → (a b : ℕ) → a < n → b < rows → slice_index q (to + to_step * b + a) ≡ g (to + to_step * b + a)
  pub kept : (g : ℕ → ℕ) → IsTileOf rows n from from_step to to_step u g → (i : ℕ) → slice_index v i ≡ g i → slice_index q i ≡ g i

-- two rows of n elements, interleaved within each run of `side` elements: half s of each run of the result
abbrev pub woven : ℕ → (ℕ → ℕ → ℕ) → ℕ → ℕ → ℕ
woven side rows s j = rows (j % side % 2) (j / side * side + s * (side / 2) + j % side / 2)

-- `side` rows, of which each of the first half is interleaved with the one half a side after it
abbrev pub layer : ℕ → (ℕ → ℕ → ℕ) → ℕ → ℕ → ℕ
layer side rows i j = rows (i / 2 + j % side % 2 * (side / 2)) (j / side * side + i % 2 * (side / 2) + j % side / 2)

-- four rows of eight elements
abbrev pub AreFour : {V : Type 0} → (V → ℕ → ℕ) → (ℕ → ℕ → ℕ) → V → V → V → V → Type 0
AreFour at rows a b c d = (j : ℕ) → j < 8 → (at a j ≡ rows 0 j) × (at b j ≡ rows 1 j) × (at c j ≡ rows 2 j) × (at d j ≡ rows 3 j)

-- eight rows of eight elements
abbrev pub AreEight : {V : Type 0} → (V → ℕ → ℕ) → (ℕ → ℕ → ℕ) → V → V → V → V → V → V → V → V → Type 0
AreEight at rows a b c d e f g h = AreFour at rows a b c d × AreFour at (λ i. rows (4 + i)) e f g h
