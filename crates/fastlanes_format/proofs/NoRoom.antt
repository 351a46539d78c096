-- No error of bytes that are not a column is `Room`.
use Rattle.std.proofs.Common.{◌≡◌, ◌≢◌, ℕ, ◌%◌, ◌==◌, ◌∙◌, Bool, true, false, List, None, Some, ap, arith, inl, inr, sym, suc, take, zero}
use Rattle.std.specs.Prelude.{Option, if◌then◌else◌, not}
use Rattle.std.proofs.lemmas.Bool.Decides.{nat_tests}
use Rattle.fastlanes_format.specs.Errors.{IsColumnError, block_error, blocks_error, declared_error, end_error, error, first_error, header_error, length_error, page_error, page_header_error, page_whole_error, trailing_error}
use Rattle.fastlanes_format.specs.Format.{blocks_of, head_len, values_of}
use Rattle.fastlanes_format.specs.declared.flaw.Flaw.{Flaw}
use Rattle.fastlanes_format.specs.declared.flaw.Flaw.TheVariants.{Behind, Room}
use Rattle.fastlanes_format.specs.declared.flaw.FormatError.{FormatError}

abbrev is_room : Flaw → Bool
is_room Room = true
is_room _ = false

-- whether a table says that there is no room
abbrev has_room : Option FormatError → Bool
has_room None = false
has_room (Some e) = is_room e.flaw

row : (test : Bool) (first rest : Option FormatError) → has_room first ≡ false → has_room rest ≡ false → has_room (if test then first else rest) ≡ false
row true first rest none also = none
row false first rest none also = also

both : (first second : Option FormatError) → has_room first ≡ false → has_room second ≡ false → has_room (first_error first second) ≡ false
both None second none also = also
both (Some x) second none also = none

header : (bits : ℕ) (bytes : List ℕ) → has_room (header_error bits bytes) ≡ false
header bits bytes = grind (arith, nat_tests)

block : (bits : ℕ) (page : List ℕ) (n : ℕ) → has_room (block_error bits page n) ≡ false
block bits page n = grind (arith, nat_tests)

blocks : (bits : ℕ) (page : List ℕ) (n : ℕ) → has_room (blocks_error bits page n) ≡ false
blocks bits page zero = grind arith
blocks bits page (suc n) = both (blocks_error bits page n) (block_error bits page n) (blocks bits page n) (block bits page n)

page_header : (page : List ℕ) → has_room (page_header_error page) ≡ false
page_header page = grind (arith, nat_tests)

page_whole : (checked : Bool) (page : List ℕ) → has_room (page_whole_error checked page) ≡ false
page_whole checked page = grind (arith, nat_tests)

page_free : (bits : ℕ) (checked : Bool) (page : List ℕ) → has_room (page_error bits checked page) ≡ false
page_free bits checked page =
    both (page_header_error page) _ (page_header page)
    (both (blocks_error bits page (blocks_of page)) (page_whole_error checked page) (blocks bits page (blocks_of page)) (page_whole checked page))

end_free : (checked : Bool) (values : ℕ) (end : List ℕ) → has_room (end_error checked values end) ≡ false
end_free checked values end = grind (arith, nat_tests)

length : (bits : ℕ) (bytes : List ℕ) → has_room (length_error bits bytes) ≡ false
length bits bytes = grind (arith, nat_tests)

trailing : (bytes : List ℕ) → has_room (trailing_error bytes) ≡ false
trailing bytes = grind (arith, nat_tests)

declared : (bits : ℕ) (checked : Bool) (before : ℕ) (bytes : List ℕ) → has_room (declared_error bits checked before bytes) ≡ false
declared bits checked before bytes =
    row (values_of bytes == 0) (first_error (end_error checked before (take (head_len bytes) bytes)) (trailing_error bytes))
    (if not (before % 65536 == 0) then error Behind 0 else page_error bits checked (take (head_len bytes) bytes))
    (both (end_error checked before (take (head_len bytes) bytes)) (trailing_error bytes) (end_free checked before (take (head_len bytes) bytes)) (trailing bytes))
    (row (not (before % 65536 == 0)) (error Behind 0) (page_error bits checked (take (head_len bytes) bytes)) (cc)
    (page_free bits checked (take (head_len bytes) bytes)))

other_flaw : (table : Option FormatError) (e : FormatError) → has_room table ≡ false → table ≡ Some e → e.flaw ≢ Room
other_flaw table e none some = λ room.
    let own : is_room e.flaw ≡ false = sym (ap has_room some) ∙ none in
    let there : is_room e.flaw ≡ true = ap is_room room in
    let never : true ≡ false = sym there ∙ own in
    cc

pub never_room : (bits : ℕ) (bytes : List ℕ) (e : FormatError) → IsColumnError bits bytes e → e.flaw ≢ Room
never_room bits bytes e (inl is) = other_flaw (header_error bits bytes) e (header bits bytes) is
never_room bits bytes e (inr is) = λ room.
    let behind = is.2.behind in
    let here = other_flaw _ behind.here
    (both (length_error bits behind.rest) _ (length bits behind.rest) (declared bits is.0 _ behind.rest)) behind.is in
    here (sym (ap (λ (x : FormatError). x.flaw) (is.2.at) ∙ ap (λ (x : FormatError). x.flaw) behind.at) ∙ room)
