-- Quotients that are rounded.
use Rattle.std.specs.Prelude.{ℕ, ◌+◌, ◌*◌, ◌/◌}

-- the whole number that is nearest to a quotient, and the greater one where two are as near
abbrev pub rounded : ℕ → ℕ → ℕ
rounded dividend divisor = (2 * dividend + divisor) / (2 * divisor)
