-- The flaws of bytes that are no column, in C.
use Rattle.std.specs.Prelude.{◌≡◌, ℕ, List}
use Rattle.fastlanes_format.specs.Errors.{IsColumnError}
use Rattle.fastlanes_format.specs.declared.flaw.Flaw.{Flaw}
use Rattle.fastlanes_format.specs.declared.flaw.FormatError.{FormatError}
use Rattle.fastlanes_format.specs.declared.flaw.Flaw.TheVariants.{Behind, Checks, Checksum, Cut, Element, Form, Length, Name, Place, Reference, Room, Spare, Total, Trailing, Values, Width}

-- a flaw by its number, as `include/fastlanes.h` counts them; 0 is none
abbrev pub flaw_number : Flaw → ℕ
flaw_number Cut = 1
flaw_number Name = 2
flaw_number Element = 3
flaw_number Checks = 4
flaw_number Values = 5
flaw_number Spare = 6
flaw_number Length = 7
flaw_number Form = 8
flaw_number Width = 9
flaw_number Place = 10
flaw_number Reference = 11
flaw_number Checksum = 12
flaw_number Behind = 13
flaw_number Total = 14
flaw_number Trailing = 15
flaw_number Room = 16

-- bytes that are not a column of such elements have the error of this number, at this offset
pub record ReportsError (bits : ℕ) (bytes : List ℕ) (number at : ℕ) : Type 0 where
  pub error : FormatError
  pub is : IsColumnError bits bytes error
  pub counted : flaw_number error.flaw ≡ number
  pub offset : error.at ≡ at
