-- The flags of C calls on columns.
use Rattle.std.specs.Prelude.{ℕ, ◌/◌, ◌%◌, ◌==◌, Bool}

-- whether flag 1, FL_COLUMN_FOR_ONLY, is set
abbrev pub is_for_only : ℕ → Bool
is_for_only flags = flags % 2 == 1

-- whether flag 2, FL_COLUMN_NO_CHECKSUMS, is not set
abbrev pub has_checksums : ℕ → Bool
has_checksums flags = flags / 2 % 2 == 0
