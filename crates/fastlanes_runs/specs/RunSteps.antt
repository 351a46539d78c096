-- How far a block's runs are encoded, and which places are decoded.
use Rattle.std.specs.Prelude.{◌≡◌, ℕ, ◌+◌, ◌<◌, ◌≤◌, Bool, Some, List, length, drop, slice_get, slice_index}
use Rattle.fastlanes_runs.specs.RunLengths.{run_number, starts_below}

-- The places below i are encoded. The last of them is in the run of the number `run`, and `start` is the value at the
-- start of that run. The dictionary held `before` at first.
pub record IsEncodedTo {V : Type 0} (eq : V → V → Bool) (v before : List V) (i : ℕ) (start : V) (run : ℕ) (vals : List V) (idxs : List ℕ) : Type 0 where
  pub vals_long : length vals ≡ 1024
  pub idxs_long : length idxs ≡ 1024
  pub count : length (starts_below eq v i) ≡ run + 1
  pub latest : slice_get vals run ≡ Some start
  pub entries : (k : ℕ) → k ≤ run → slice_get vals k ≡ slice_get v (slice_index (starts_below eq v i) k)
  pub rest : drop (run + 1) vals ≡ drop (run + 1) before
  pub indexes : (j : ℕ) → j < i → slice_index idxs j ≡ run_number eq v j

-- From the place `from` up to the place `to`, the output became the entries that the indexes name. Below, it stayed as it was.
pub record DecodesPlaces {V : Type 0} (idxs : List ℕ) (vals : List V) (from to : ℕ) (old new : List V) : Type 0 where
  pub entries : (i : ℕ) → from ≤ i → i < to → slice_get new i ≡ slice_get vals (slice_index idxs i)
  pub below : (i : ℕ) → i < from → slice_get new i ≡ slice_get old i
