-- Which error is reported of bytes that are not a column. Each table is in order: the first row whose test holds is the error.
use Rattle.std.specs.Prelude.{◌≡◌, ℕ, ◌+◌, ◌%◌, ◌^◌, ◌==◌, ◌&&◌, ◌||◌, ◌⊎◌, zero, suc, Bool, Err, List, None, Ok, Option, Result, Some, drop, if◌then◌else◌, length, nat_lt, not, slice_index, sum_by, take}
use Rattle.fastlanes_format.specs.declared.flaw.Flaw.{Flaw}
use Rattle.fastlanes_format.specs.declared.flaw.Flaw.TheVariants.{Behind, Checks, Checksum, Cut, Element, Form, Length, Name, Place, Reference, Spare, Total, Trailing, Values, Width}
use Rattle.fastlanes_format.specs.declared.flaw.FormatError.{FormatError}
use Rattle.fastlanes_format.specs.Format.{BeginWithPages, IsColumnHead, block_place, blocks_of, form_of, head_len, head_of, longest_page, number_at, page_checksum, reference_of, values_of, width_of}

-- the error that bytes have this flaw at this offset
abbrev pub error : Flaw → ℕ → Option FormatError
error flaw at = Some (record { flaw = flaw; at = at })

-- the first of two errors if there is one, or the second
abbrev pub first_error : Option FormatError → Option FormatError → Option FormatError
first_error None second = second
first_error (Some first) second = Some first

-- the error that a call returns
abbrev pub error_of : {T : Type 0} → Result T FormatError → Option FormatError
error_of (Ok value) = None
error_of (Err e) = Some e

-- the header of a column, with which bytes begin
abbrev pub header_error : ℕ → List ℕ → Option FormatError
header_error bits bytes =
    if nat_lt (length bytes) 8 then error Cut (length bytes) else
    if not (number_at 4 bytes 0 == 0x01434C46) then error Name 0 else
    if not (slice_index bytes 4 == bits) then error Element 4 else
    if not (slice_index bytes 5 == 0 || slice_index bytes 5 == 3) then error Checks 5 else
    if not (number_at 2 bytes 6 == 0) then error Spare 6 else
    None

-- the header of a block
abbrev pub block_error : ℕ → List ℕ → ℕ → Option FormatError
block_error bits page block =
    if nat_lt 1 (form_of page block) then error Form (head_of block) else
    if nat_lt bits (width_of page block) then error Width (head_of block + 1) else
    if not (number_at 2 page (head_of block + 2) == 0) then error Spare (head_of block + 2) else
    if not (number_at 4 page (head_of block + 4) == block_place page block) then error Place (head_of block + 4) else
    if not (nat_lt (reference_of page block) (2 ^ bits)) then error Reference (head_of block + 8) else
    if form_of page block == 1 && not (reference_of page block == 0) then error Reference (head_of block + 8) else
    None

-- the first n of them
abbrev pub blocks_error : ℕ → List ℕ → ℕ → Option FormatError
blocks_error bits page zero = None
blocks_error bits page (suc n) = first_error (blocks_error bits page n) (block_error bits page n)

-- what stands before the headers of a page's blocks
abbrev pub page_header_error : List ℕ → Option FormatError
page_header_error page =
    if nat_lt (length page) 16 then error Cut (length page) else
    if values_of page == 0 then error Values 4 else
    if nat_lt 65536 (values_of page) then error Values 4 else
    if not (length page == head_len page) then error Length 8 else
    if not (number_at 4 page 12 == 0) then error Spare 12 else
    if nat_lt (length page) (head_of (blocks_of page)) then error Length 8 else
    None

-- how long a page's blocks are, and its checksum
abbrev pub page_whole_error : Bool → List ℕ → Option FormatError
page_whole_error checked page =
    if not (block_place page (blocks_of page) == length page) then error Length 8 else
    if not (number_at 4 page 0 == page_checksum checked page) then error Checksum 0 else
    None

-- the bytes of a page
abbrev pub page_error : ℕ → Bool → List ℕ → Option FormatError
page_error bits checked page =
    first_error (page_header_error page) (first_error (blocks_error bits page (blocks_of page)) (page_whole_error checked page))

-- the bytes of the end of a column of so many values
abbrev pub end_error : Bool → ℕ → List ℕ → Option FormatError
end_error checked values end =
    if not (length end == 24) then error Length 8 else
    if not (number_at 4 end 12 == 0) then error Spare 12 else
    if not (number_at 8 end 16 == values) then error Total 16 else
    if not (number_at 4 end 0 == page_checksum checked end) then error Checksum 0 else
    None

-- the length that a page or an end declares
abbrev pub length_error : ℕ → List ℕ → Option FormatError
length_error bits bytes =
    if nat_lt (length bytes) 16 then error Cut (length bytes) else
    if nat_lt (longest_page bits) (head_len bytes) then error Length 8 else
    if nat_lt (length bytes) (head_len bytes) then error Cut (length bytes) else
    None

-- what follows an end
abbrev pub trailing_error : List ℕ → Option FormatError
trailing_error bytes = if nat_lt (head_len bytes) (length bytes) then error Trailing (head_len bytes) else None

-- a page or an end that is there as a whole, behind pages of so many values: with no values it is the end
abbrev pub declared_error : ℕ → Bool → ℕ → List ℕ → Option FormatError
declared_error bits checked before bytes =
    if values_of bytes == 0 then first_error (end_error checked before (take (head_len bytes) bytes)) (trailing_error bytes) else
    if not (before % 65536 == 0) then error Behind 0 else
    page_error bits checked (take (head_len bytes) bytes)

-- what follows pages of so many values: a page or the end
abbrev pub next_error : ℕ → Bool → ℕ → List ℕ → Option FormatError
next_error bits checked before bytes = first_error (length_error bits bytes) (declared_error bits checked before bytes)

-- an error of bytes, of others that have so many before these
abbrev pub moved : ℕ → FormatError → FormatError
moved before e = record { flaw = e.flaw; at = before + e.at }

-- the bytes behind the header of a column have this error: pages stand at the beginning, and what follows them has it
pub record IsErrorBehind (bits : ℕ) (checked : Bool) (bytes : List ℕ) (e : FormatError) : Type 0 where
  pub pages : List (List ℕ)
  pub rest : List ℕ
  pub begin : BeginWithPages bits checked 0 pages bytes rest
  pub here : FormatError
  pub is : next_error bits checked (sum_by values_of pages) rest ≡ Some here
  pub at : e ≡ moved (sum_by length pages) here

-- bytes have the error of what follows their first eight
pub record IsErrorFromEight (bits : ℕ) (checked : Bool) (bytes : List ℕ) (e : FormatError) : Type 0 where
  pub here : FormatError
  pub behind : IsErrorBehind bits checked (drop 8 bytes) here
  pub at : e ≡ moved 8 here

-- bytes that are not a column have this error: that of their header, or else that of what follows it
abbrev pub IsColumnError : ℕ → List ℕ → FormatError → Type 0
IsColumnError bits bytes e = (header_error bits bytes ≡ Some e)
    ⊎ ((checked : Bool) × IsColumnHead bits checked (take 8 bytes) × IsErrorFromEight bits checked bytes e)
