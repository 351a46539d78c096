-- Lists that are written one element after another.
use Rattle.std.proofs.Common.{◌≡◌, ◌≢◌, ℕ, ◌+◌, ◌<◌, List, get_or, length, map, set, ◌∙◌, arith, below_more, get_or-set_other, get_or-set_same}
use Rattle.std.proofs.lemmas.List.{length-map, map-set}

-- one more is written
pub written_more : {X Y : Type 0} (f : X → Y) (xs : List X) (n : ℕ) (x : X) (d : Y) (value : ℕ → Y) → n < length xs
    → ((k : ℕ) → k < n → get_or (map f xs) k d ≡ value k) → f x ≡ value n → (k : ℕ) → k < n + 1 → get_or (map f (set xs n x)) k d ≡ value k
written_more f xs n x d value inside before here =
    rw (map-set f xs n x) (below_more _ _
    (λ k below. let other : k ≢ n = omega arith in get_or-set_other (map f xs) n k (f x) d other ∙ before k below)
    (let in_list : n < length (map f xs) = rw length-map inside in get_or-set_same (map f xs) n (f x) d in_list ∙ here))
