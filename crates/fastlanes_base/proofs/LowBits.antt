-- Words whose lowest bits are ones.
use Rattle.std.proofs.Common.{◌≡◌, ℕ, ◌-◌, ◌^◌, ◌<◌, List, true, nat_eq, map, slice_index, refl}
use Rattle.std.proofs.lemmas.Bool.{agree_below_at, eqb-true}
use Rattle.std.specs.List.{range_with_len}

-- by how many of them, up to 64
abbrev pub ones : List ℕ
ones = map (λ k. 2 ^ k - 1) (range_with_len 0 65)

pub ones_at : (n : ℕ) → n < 65 → slice_index ones n ≡ 2 ^ n - 1
ones_at n within = eqb-true _ _ (agree_below_at (λ k. nat_eq (slice_index ones k) (2 ^ k - 1)) (λ _. true) 65 n refl within)
