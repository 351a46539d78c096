-- How many heads of a column tell.
use Rattle.std.proofs.Common.{◌≡◌, ℕ, ◌+◌, ◌≤◌, Bool, List, zero, suc, true, false, ap, arith}
use Rattle.std.specs.Prelude.{if◌then◌else◌}
use Rattle.fastlanes_pages.specs.Heads.{column_head, head_tells, told_blocks}

one_most : (b : Bool) → (if b then 1 else 0) ≤ 1
one_most true = omega arith
one_most false = omega arith

-- no more than there are
pub told_most : (t : ℕ) (bytes : List ℕ) (value n : ℕ) → told_blocks t bytes value n ≤ n
told_most t bytes value zero = omega arith
told_most t bytes value (suc n) = omega (arith, told_most t bytes value n, one_most (head_tells t (column_head t bytes n) value))

-- those of one block more
pub told_more : (t : ℕ) (bytes : List ℕ) (value n : ℕ)
    → told_blocks t bytes value (n + 1) ≡ told_blocks t bytes value n + (if head_tells t (column_head t bytes n) value then 1 else 0)
told_more t bytes value n =
    let after : n + 1 ≡ suc n = omega arith in
    ap (told_blocks t bytes value) after
