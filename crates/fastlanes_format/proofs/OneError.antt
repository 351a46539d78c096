-- Bytes that are not a column have one error, and a column has none.
use Rattle.std.proofs.Common.{◌≡◌, ◌==◌, ℕ, ◌+◌, ◌%◌, ◌<◌, ◌++◌, ◌∙◌, Bool, true, false, List, [], ◌∷◌, None, Some, ap, arith, drop, get_or, if◌then◌else◌, inl, inr, length, refl, subst, suc, sym, take, zero}
use Rattle.std.specs.Prelude.{sum_by}
use Rattle.std.proofs.lemmas.Bool.Decides.{nat_tests}
use Rattle.std.proofs.lemmas.List.{get_or-take, length-take, take_all}
use Rattle.std.proofs.lemmas.List.Sums.{sum_by-cons}
use Rattle.fastlanes_format.specs.Errors.{IsColumnError, IsErrorBehind, block_error, blocks_error, declared_error, end_error, first_error, header_error, length_error, moved, next_error, page_error, page_header_error, page_whole_error, trailing_error}
use Rattle.fastlanes_format.specs.Format.{AreColumn, ArePages, BeginWithPages, IsBlockHead, IsColumnHead, IsEnd, IsPage, blocks_of, head_len, number_at, values_of}
use Rattle.fastlanes_format.specs.declared.flaw.FormatError.{FormatError}
use Rattle.fastlanes_format.proofs.BlockPlaces.{heads_first, page_longest}
use Rattle.fastlanes_format.proofs.ErrorTables.{length_fine, no_error}
use Rattle.fastlanes_format.proofs.FirstPages.{page_first, page_inside, page_len_is, page_rest, page_values}
use Rattle.fastlanes_format.proofs.NumberPlaces.{number_at-take}

-- two that are none
fine_first : (first second : _) → first ≡ None → second ≡ None → first_error first second ≡ None
fine_first first second none nothing = ap (λ e. first_error e second) none ∙ nothing

block_fine : (bits : ℕ) (page : List ℕ) (block : ℕ) → IsBlockHead bits page block → block_error bits page block ≡ None
block_fine bits page block is = grind (arith, nat_tests, is.form, is.width, is.spare, is.place, is.reference, is.no_reference)

blocks_fine : (bits : ℕ) (page : List ℕ) (n : ℕ) → ((block : ℕ) → block < n → IsBlockHead bits page block) → blocks_error bits page n ≡ None
blocks_fine bits page zero heads = grind arith
blocks_fine bits page (suc n) heads =
    fine_first _ _ (blocks_fine bits page n (λ block below. heads block (omega arith))) (block_fine bits page n (heads n (omega arith)))

-- a page has no error
page_fine : (bits : ℕ) (checked : Bool) (page : List ℕ) → IsPage bits checked page → page_error bits checked page ≡ None
page_fine bits checked page is =
    let behind = heads_first page (blocks_of page) in
    let some = is.some in
    let most = is.most in
    let len = is.len in
    let spare = is.spare in
    let whole = is.whole in
    let check = is.check in
    let header : page_header_error page ≡ None = grind (arith, nat_tests) in
    let last : page_whole_error checked page ≡ None = grind (arith, nat_tests) in
    fine_first _ _ header (fine_first _ _ (blocks_fine bits page (blocks_of page) is.heads) last)

pub end_fine : (checked : Bool) (values : ℕ) (end : List ℕ) → IsEnd checked values end → end_error checked values end ≡ None
end_fine checked values end is = let check = is.check in let spare = is.spare in let whole = is.whole in let all = is.all in grind (arith, nat_tests)

page_declared : (bits : ℕ) (checked : Bool) (before : ℕ) (bytes : List ℕ) → 0 < values_of bytes → before % 65536 ≡ 0
    → page_error bits checked (take (head_len bytes) bytes) ≡ None → declared_error bits checked before bytes ≡ None
page_declared bits checked before bytes some room own =
    let test : (values_of bytes == 0) ≡ false = grind (arith, nat_tests) in
    let full : (before % 65536 == 0) ≡ true = grind (arith, nat_tests) in
    rw (test, full) own

-- a page and what follows it, where the page may be, have no error
page_next : (bits : ℕ) (checked : Bool) (before : ℕ) (page rest : List ℕ) → before % 65536 ≡ 0 → IsPage bits checked page
    → next_error bits checked before (page ++ rest) ≡ None
page_next bits checked before page rest room is =
    let bytes = page ++ rest in
    let longest = page_longest bits checked page is in
    let length : length_error bits bytes ≡ None =
    length_fine bits bytes (page_inside bits checked page rest is) (omega (arith, longest, page_len_is bits checked page rest is)) in
    let own : page_error bits checked (take (head_len bytes) bytes) ≡ None = rw (page_first bits checked page rest is) (page_fine bits checked page is) in
    fine_first _ _ length (page_declared bits checked before bytes (page_values bits checked page rest is) room own)

end_declared : (bits : ℕ) (checked : Bool) (before : ℕ) (bytes : List ℕ) → values_of bytes ≡ 0 → head_len bytes ≡ length bytes
    → end_error checked before (take (head_len bytes) bytes) ≡ None → declared_error bits checked before bytes ≡ None
end_declared bits checked before bytes none len own =
    let test : (values_of bytes == 0) ≡ true = grind (arith, nat_tests) in
    let last : trailing_error bytes ≡ None = grind (arith, nat_tests) in
    rw test (fine_first _ _ own last)

-- nor has the end
end_next : (bits : ℕ) (checked : Bool) (before : ℕ) (bytes : List ℕ) → IsEnd checked before bytes → next_error bits checked before bytes ≡ None
end_next bits checked before bytes is =
    let len : head_len bytes ≡ length bytes = omega (arith, is.len, is.whole) in
    let length : length_error bits bytes ≡ None = length_fine bits bytes (omega (arith, len)) (omega (arith, is.len)) in
    let own : end_error checked before (take (head_len bytes) bytes) ≡ None =
    rw (take_all (head_len bytes) bytes (omega (arith, len))) (end_fine checked before bytes is) in
    fine_first _ _ length (end_declared bits checked before bytes is.none len own)

module _ (bits : ℕ) (checked : Bool) where
  same_page : (first page behind more : List ℕ) → IsPage bits checked first → IsPage bits checked page → first ++ behind ≡ page ++ more → first ≡ page
  same_page first page behind more is also same =
      sym (page_first bits checked first behind is) ∙ ap (λ b. take (head_len b) b) same ∙ page_first bits checked page more also

  same_rest : (first page behind more : List ℕ) → IsPage bits checked first → IsPage bits checked page → first ++ behind ≡ page ++ more → behind ≡ more
  same_rest first page behind more is also same =
      sym (page_rest bits checked first behind is) ∙ ap (λ b. drop (head_len b) b) same ∙ page_rest bits checked page more also

  -- what follows some pages of a column has no error
  are_rest : (before : ℕ) (all pages : List (List ℕ)) (bytes rest : List ℕ) → ArePages bits checked before all bytes
      → BeginWithPages bits checked before pages bytes rest → next_error bits checked (before + sum_by values_of pages) rest ≡ None
  are_rest before [] [] bytes rest are begin =
      let same : before + 0 ≡ before = omega arith in
      rw (same, ← begin) (end_next bits checked before bytes are)
  are_rest before (page ∷ all) [] bytes rest are begin =
      let same : before + 0 ≡ before = omega arith in
      rw (same, ← begin, are.1) (page_next bits checked before page are.0 are.2 are.3)
  are_rest before [] (page ∷ pages) bytes rest are begin =
      let some : 0 < values_of bytes = rw begin.1 (page_values bits checked page begin.0 begin.3) in
      absurd (omega (arith, some, are.none))
  are_rest before (first ∷ all) (page ∷ pages) bytes rest are begin =
      let own : first ≡ page = same_page first page are.0 begin.0 are.3 begin.3 (sym are.1 ∙ begin.1) in
      let behind : are.0 ≡ begin.0 = same_rest first page are.0 begin.0 are.3 begin.3 (sym are.1 ∙ begin.1) in
      let after : ArePages bits checked (before + values_of page) all begin.0 =
      subst (λ p. ArePages bits checked (before + values_of p) all begin.0) own (subst (ArePages bits checked (before + values_of first) all) behind are.4) in
      let sum : before + sum_by values_of (page ∷ pages) ≡ before + values_of page + sum_by values_of pages = omega (arith, sum_by-cons values_of page pages) in
      rw sum (are_rest (before + values_of page) all pages begin.0 rest after begin.4)

  -- whatever pages are passed, the error is the same, and at the same offset
  abbrev Same : List (List ℕ) → List (List ℕ) → FormatError → FormatError → Type 0
  Same pages others here there = (here.flaw ≡ there.flaw) × (sum_by length pages + here.at ≡ sum_by length others + there.at)

  same_error : (before : ℕ) (pages others : List (List ℕ)) (bytes rest more : List ℕ) (here there : FormatError)
      → BeginWithPages bits checked before pages bytes rest → BeginWithPages bits checked before others bytes more
      → next_error bits checked (before + sum_by values_of pages) rest ≡ Some here
      → next_error bits checked (before + sum_by values_of others) more ≡ Some there → Same pages others here there
  same_error before [] [] bytes rest more here there begin also is is_too =
      let some : Some here ≡ Some there = sym is ∙ ap (next_error bits checked (before + 0)) (sym begin ∙ also) ∙ is_too in
      let same : here ≡ there = cc in
      (ap (λ (e : FormatError). e.flaw) same, ap (λ (e : FormatError). 0 + e.at) same)
  same_error before [] (page ∷ others) bytes rest more here there begin also is is_too =
      let same : before + 0 ≡ before = omega arith in
      let none : next_error bits checked (before + 0) rest ≡ None =
      rw (same, ← begin, also.1) (page_next bits checked before page also.0 also.2 also.3) in
      no_error _ here _ (sym is) none
  same_error before (page ∷ pages) [] bytes rest more here there begin also is is_too =
      let same : before + 0 ≡ before = omega arith in
      let none : next_error bits checked (before + 0) more ≡ None =
      rw (same, ← also, begin.1) (page_next bits checked before page begin.0 begin.2 begin.3) in
      no_error _ there _ (sym is_too) none
  same_error before (first ∷ pages) (page ∷ others) bytes rest more here there begin also is is_too =
      let own : first ≡ page = same_page first page begin.0 also.0 begin.3 also.3 (sym begin.1 ∙ also.1) in
      let behind : begin.0 ≡ also.0 = same_rest first page begin.0 also.0 begin.3 also.3 (sym begin.1 ∙ also.1) in
      let after : BeginWithPages bits checked (before + values_of page) pages also.0 rest =
      subst (λ p. BeginWithPages bits checked (before + values_of p) pages also.0 rest) own
      (subst (λ b. BeginWithPages bits checked (before + values_of first) pages b rest) behind begin.4) in
      let values : values_of first ≡ values_of page = ap values_of own in
      let sum : before + sum_by values_of (first ∷ pages) ≡ before + values_of page + sum_by values_of pages =
      omega (arith, sum_by-cons values_of first pages, values) in
      let sum_too : before + sum_by values_of (page ∷ others) ≡ before + values_of page + sum_by values_of others = omega (arith, sum_by-cons values_of page others) in
      let rest_same = same_error (before + values_of page) pages others also.0 rest more here there after also.4 (rw sum at is) (rw sum_too at is_too) in
      let long : length first ≡ length page = ap length own in
      (rest_same.0, omega (arith, rest_same.1, long, sum_by-cons length first pages, sum_by-cons length page others))

  -- the error of what is behind a header is one
  pub one_behind : (bytes : List ℕ) (e other : FormatError) → IsErrorBehind bits checked bytes e → IsErrorBehind bits checked bytes other → e ≡ other
  one_behind bytes e other is also =
      let same = same_error 0 is.pages also.pages bytes is.rest also.rest is.here also.here is.begin also.begin (at_zero is.pages is.rest is.here is.is)
      (at_zero also.pages also.rest also.here also.is) in
      is.at ∙ ap (λ (f : _). record { flaw = f; at = sum_by length is.pages + is.here.at }) same.0
      ∙ ap (λ (n : ℕ). record { flaw = also.here.flaw; at = n }) same.1 ∙ sym also.at
    where
      at_zero : (pages : List (List ℕ)) (rest : List ℕ) (here : FormatError) → next_error bits checked (sum_by values_of pages) rest ≡ Some here
          → next_error bits checked (0 + sum_by values_of pages) rest ≡ Some here
      at_zero pages rest here is = let all : 0 + sum_by values_of pages ≡ sum_by values_of pages = omega arith in rw all is

  -- pages and the end have none
  pub none_behind : (pages : List (List ℕ)) (bytes : List ℕ) (e : FormatError) → ArePages bits checked 0 pages bytes → ¬ (IsErrorBehind bits checked bytes e)
  none_behind pages bytes e are is =
      let all : 0 + sum_by values_of is.pages ≡ sum_by values_of is.pages = omega arith in
      no_error _ is.here _ (sym is.is) (rw (← all) (are_rest 0 pages is.pages bytes is.rest are is.begin))

-- the header of a column has no error
header_fine : (bits : ℕ) (checked : Bool) (bytes : List ℕ) → IsColumnHead bits checked (take 8 bytes) → header_error bits bytes ≡ None
header_fine bits checked bytes is =
    let whole = is.whole in
    let long = length-take 8 bytes in
    let name : number_at 4 bytes 0 ≡ 0x01434C46 = sym (number_at-take 4 8 bytes 0 (omega (arith, whole))) ∙ is.name in
    let spare : number_at 2 bytes 6 ≡ 0 = sym (number_at-take 2 8 bytes 6 (omega (arith, whole))) ∙ is.spare in
    let element : get_or bytes 4 0 ≡ bits = sym (get_or-take 8 bytes 4 0 (omega arith)) ∙ is.element in
    let checks : get_or bytes 5 0 ≡ (if checked then 3 else 0) = sym (get_or-take 8 bytes 5 0 (omega arith)) ∙ is.checks in
    grind (arith, nat_tests)

-- bytes say in one way whether pages have checksums
one_kind : (bits : ℕ) (checked other : Bool) (head : List ℕ) → IsColumnHead bits checked head → IsColumnHead bits other head → checked ≡ other
one_kind bits true true head is also = refl
one_kind bits false false head is also = refl
one_kind bits true false head is also = absurd (omega (arith, is.checks, also.checks))
one_kind bits false true head is also = absurd (omega (arith, is.checks, also.checks))

-- bytes have at most one error
pub one_error : (bits : ℕ) (bytes : List ℕ) (e other : FormatError) → IsColumnError bits bytes e → IsColumnError bits bytes other → e ≡ other
one_error bits bytes e other (inl is) (inl also) = let some : Some e ≡ Some other = sym is ∙ also in cc
one_error bits bytes e other (inl is) (inr also) = no_error _ e _ (sym is) (header_fine bits also.0 bytes also.1)
one_error bits bytes e other (inr is) (inl also) = no_error _ other _ (sym also) (header_fine bits is.0 bytes is.1)
one_error bits bytes e other (inr is) (inr also) =
    let kind = one_kind bits also.0 is.0 (take 8 bytes) also.1 is.1 in
    let behind : IsErrorBehind bits is.0 (drop 8 bytes) also.2.here = subst (λ checked. IsErrorBehind bits checked (drop 8 bytes) also.2.here) kind also.2.behind in
    is.2.at ∙ ap (moved 8) (one_behind bits is.0 (drop 8 bytes) is.2.here also.2.here is.2.behind behind) ∙ sym also.2.at

-- a column has none
pub none_of_column : (bits : ℕ) (bytes : List ℕ) (e : FormatError) → AreColumn bits bytes → ¬ (IsColumnError bits bytes e)
none_of_column bits bytes e column (inl is) = no_error _ e _ (sym is) (header_fine bits column.checked bytes column.is.head)
none_of_column bits bytes e column (inr is) =
    let kind = one_kind bits is.0 column.checked (take 8 bytes) is.1 column.is.head in
    let behind : IsErrorBehind bits column.checked (drop 8 bytes) is.2.here = subst (λ checked. IsErrorBehind bits checked (drop 8 bytes) is.2.here) kind is.2.behind in
    none_behind bits column.checked column.pages (drop 8 bytes) is.2.here column.is.behind behind
