-- How many words of a lane are read for one digit.
use Rattle.std.specs.Prelude.{ℕ, ◌+◌, ◌*◌, ◌%◌, ◌==◌, nat_lt, if◌then◌else◌}

-- of a lane whose words have t bits and whose rows w, for the digit of a row: none at width 0, two where its bits begin
-- in one word and end in the next, else one
abbrev pub digit_reads : ℕ → ℕ → ℕ → ℕ
digit_reads t w row = if w == 0 then 0 else (if nat_lt t (row * w % t + w) then 2 else 1)
