-- When a call between a source and a sink fails, and with which error.
use Rattle.std.specs.Prelude.{⊤, ◌≡◌, ◌≢◌, ℕ, ◌+◌, ◌-◌, ◌*◌, ◌%◌, ◌^◌, ◌<◌, ◌≤◌, ◌⊎◌, All, Bool, List, length, min, take}
use Rattle.fastlanes_format.specs.declared.flaw.Flaw.{Flaw}
use Rattle.fastlanes_format.specs.declared.flaw.FormatError.{FormatError}
use Rattle.fastlanes_format.specs.Format.{ArePages, IsColumnHead, head_len, longest_page}
use Rattle.fastlanes_column_streams.specs.declared.error.StreamError.{StreamError}
use Rattle.fastlanes_column_streams.specs.declared.error.StreamError.TheVariants.{ReadFailed, Refused, ShortValue, TooMany, WriteFailed}

-- the errors of a call that reads the header of a column, a page or the end
abbrev pub IsReadError : StreamError → Type 0
IsReadError (Refused error) = ⊤
IsReadError ReadFailed = ⊤
IsReadError _ = ⊥

-- the errors of a call that reads all pages of a column
abbrev pub IsFindError : StreamError → Type 0
IsFindError (Refused error) = ⊤
IsFindError TooMany = ⊤
IsFindError ReadFailed = ⊤
IsFindError _ = ⊥

-- the errors of a call that decodes a column
abbrev pub IsDecodeError : StreamError → Type 0
IsDecodeError (ShortValue count) = ⊥
IsDecodeError _ = ⊤

-- the errors of a call that encodes a column
abbrev pub IsEncodeError : StreamError → Type 0
IsEncodeError (Refused error) = ⊥
IsEncodeError _ = ⊤

-- a call that reads a part of a column has this error, and it refuses the bytes only for this reason
abbrev pub Refuses : StreamError → Type 0 → Type 0
Refuses (Refused error) reason = reason
Refuses ReadFailed reason = ⊤
Refuses _ reason = ⊥

-- a call that reads all pages of a column has this error: it refuses the bytes only for this reason, and finds too many values
-- only for that one
abbrev pub RefusesPages : StreamError → Type 0 → Type 0 → Type 0
RefusesPages (Refused error) reason many = reason
RefusesPages TooMany reason many = many
RefusesPages (ShortValue count) reason many = ⊥
RefusesPages _ reason many = ⊤

-- a call has this error unless a read failed: it refuses the bytes for this flaw, at this offset or the last that there is a number for
abbrev pub IsRefusal : Flaw → ℕ → StreamError → Type 0
IsRefusal flaw at (Refused error) = (error.flaw ≡ flaw) × (error.at ≡ min at (2 ^ 64 - 1))
IsRefusal flaw at ReadFailed = ⊤
IsRefusal flaw at _ = ⊥

-- the bytes do not begin with the header of a column
abbrev pub HaveNoHead : List ℕ → Type 0
HaveNoHead bytes = (bits : ℕ) (checked : Bool) → ¬ (IsColumnHead bits checked (take 8 bytes))

-- the bytes are not pages, behind pages of so many values, and the end
abbrev pub AreNoPages : ℕ → Bool → ℕ → List ℕ → Type 0
AreNoPages bits checked before bytes = (pages : List (List ℕ)) → ¬ (ArePages bits checked before pages bytes)

-- numbers that are bytes
abbrev pub AreBytes : List ℕ → Type 0
AreBytes bytes = All (λ byte. byte < 256) bytes

-- a page or an end declares more bytes than there is room for, and no more than the longest page has
abbrev pub LacksRoom : ℕ → ℕ → List ℕ → Type 0
LacksRoom bits room bytes = (room < head_len bytes) × (head_len bytes ≤ longest_page bits)

-- a call that encodes the bytes of a source, with values of so many bytes, has this error
abbrev pub StopsEncoding : ℕ → List ℕ → StreamError → Type 0
StopsEncoding size bytes (ShortValue count) = (length bytes % size ≢ 0) × (count ≡ min (length bytes) (2 ^ 64 - 1))
StopsEncoding size bytes TooMany = 2 ^ 64 * size ≤ length bytes
StopsEncoding size bytes (Refused error) = ⊥
StopsEncoding size bytes _ = ⊤

-- a call that encodes the next page has this error, where the source gave so many bytes before
abbrev pub StopsPage : ℕ → ℕ → List ℕ → StreamError → Type 0
StopsPage size place bytes (ShortValue count) = (length bytes % size ≢ 0) × (count ≡ min (place + length bytes) (2 ^ 64 - 1))
StopsPage size place bytes TooMany = ⊥
StopsPage size place bytes (Refused error) = ⊥
StopsPage size place bytes _ = ⊤
