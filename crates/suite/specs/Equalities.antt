-- Equalities of numbers that are not plain ones.
use Rattle.std.specs.Prelude.{ℕ, Bool, not, ◌&&◌, ◌==◌}
use Rattle.std.specs.Cmp.{IsPartialEquivalence}
use Rattle.std.proofs.Common.{arith}
use Rattle.std.proofs.lemmas.Grind.{common_steps}

-- 0 equals nothing, and any other number itself
abbrev pub equal_but_zero : ℕ → ℕ → Bool
equal_but_zero a b = (a == b) && not (a == 0)

pub equal_but_zero-laws : IsPartialEquivalence equal_but_zero
equal_but_zero-laws = record { symm = λ a b. grind (arith, common_steps); trans = λ a b c ab bc. grind (arith, common_steps) }
