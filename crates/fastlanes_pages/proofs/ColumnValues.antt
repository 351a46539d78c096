-- The values that the bytes of a column stand for.
use Rattle.std.proofs.Common.{◌≡◌, ℕ, ◌+◌, ◌-◌, ◌*◌, ◌/◌, ◌%◌, ◌<◌, ◌≤◌, ◌∙◌, ◌++◌, Bool, List, [], ◌∷◌, zero, suc, ap, arith, drop, get_or, inl, inr, length, refl, subst, sym, take}
use Rattle.std.proofs.Math.Seq.{drop-append_seam, take-append_seam}
use Rattle.std.proofs.lemmas.Bool.{cases_lt}
use Rattle.std.proofs.lemmas.List.{append-nil, drop-drop, get_or-drop, length-append, length-drop, length-take, nil_from_length, take_all}
use Rattle.std.proofs.lemmas.List.FromFn.{fill_by_all}
use Rattle.std.proofs.lemmas.List.Sums.{sum_by-cons}
use Rattle.std.specs.Prelude.{sum_by}
use Rattle.fastlanes_format.proofs.FirstPages.{page_first, page_rest}
use Rattle.fastlanes_format.proofs.NumberPlaces.{number_at-same}
use Rattle.fastlanes_format.specs.Format.{AreColumn, ArePages, IsColumn, count_of, head_len, number_at, page_bytes, page_place, values_of}
use Rattle.fastlanes_pages.proofs.BlockValues.{at_part, page_value_is}
use Rattle.fastlanes_pages.specs.ColumnValues.{block_values, column_value, column_values}
use Rattle.fastlanes_pages.specs.Encoded.{page_part}
use Rattle.fastlanes_pages.specs.Values.{HoldsColumn, HoldsPage, HoldsPages}

-- what holds values is pages, of as many values
pub pages_are : (t lanes : ℕ) (checked : Bool) (before : ℕ) (pages : List (List ℕ)) (bytes values : List ℕ) → HoldsPages t lanes checked before pages bytes values
    → ArePages t checked before pages bytes × (length values ≡ sum_by values_of pages)
pages_are t lanes checked before [] bytes values holds = (holds.0, ap length holds.1)
pages_are t lanes checked before (page ∷ pages) bytes values holds =
    let more = pages_are t lanes checked (before + length holds.1) pages holds.0 holds.2 holds.7 in (
      (holds.0, holds.3, holds.5, holds.6.is, subst (λ n. ArePages t checked (before + n) pages holds.0) holds.6.count more.0),
      omega (arith, ap length holds.4, length-append holds.1 holds.2, holds.6.count, more.1, sum_by-cons values_of page pages),
    )

-- what holds values is a column
pub column_is : (t lanes : ℕ) (bytes values : List ℕ) → (holds : HoldsColumn t lanes bytes values) → IsColumn t holds.checked holds.pages bytes
column_is t lanes bytes values holds = record {
  head = holds.head;
  behind = (pages_are t lanes holds.checked 0 holds.pages (drop 8 bytes) values holds.behind).0;
}

-- what holds values is a column, whatever pages it has
pub are_column : (t lanes : ℕ) (bytes values : List ℕ) → HoldsColumn t lanes bytes values → AreColumn t bytes
are_column t lanes bytes values holds = record { checked = holds.checked; pages = holds.pages; is = column_is t lanes bytes values holds }

-- the last eight bytes are the same number whatever stands before them
count_behind : (bytes rest : List ℕ) (n : ℕ) → drop n bytes ≡ rest → n + length rest ≡ length bytes → 8 ≤ length rest → count_of bytes ≡ count_of rest
count_behind bytes rest n is long last = number_at-same 8 bytes rest (length bytes - 8) (length rest - 8) (λ k below.
    let place : length bytes - 8 + k ≡ n + (length rest - 8 + k) = omega arith in
    ap (λ m. get_or bytes m 0) place ∙ sym (get_or-drop n bytes (length rest - 8 + k) 0) ∙ ap (λ b. get_or b (length rest - 8 + k) 0) is)

-- the last eight bytes behind pages are the number of all values
pages_count : (t lanes : ℕ) (checked : Bool) (before : ℕ) (pages : List (List ℕ)) (bytes values : List ℕ) → HoldsPages t lanes checked before pages bytes values
    → (count_of bytes ≡ before + length values) × (24 ≤ length bytes)
pages_count t lanes checked before [] bytes values holds =
    let at : length bytes - 8 ≡ 16 = omega (arith, holds.0.whole) in (
      omega (arith, ap (number_at 8 bytes) at, holds.0.all, ap length holds.1),
      omega (arith, holds.0.whole),
    )
pages_count t lanes checked before (page ∷ pages) bytes values (rest, here, more, bytes_are, values_are, room, own, others) =
    let behind = pages_count t lanes checked (before + length here) pages rest more others in
    let long : length page + length rest ≡ length bytes = omega (arith, ap length bytes_are, length-append page rest) in
    let is : drop (length page) bytes ≡ rest = ap (drop (length page)) bytes_are ∙ drop-append_seam page rest in (
      omega (arith, count_behind bytes rest (length page) is long (omega (arith, behind.1)), behind.0, ap length values_are, length-append here more),
      omega (arith, long, behind.1),
    )

-- a column has as many values as its last eight bytes say
pub column_count_is : (t lanes : ℕ) (bytes values : List ℕ) → HoldsColumn t lanes bytes values → count_of bytes ≡ length values
column_count_is t lanes bytes values holds =
    let behind = pages_count t lanes holds.checked 0 holds.pages (drop 8 bytes) values holds.behind in
    let cut = length-drop 8 bytes in
    omega (arith, count_behind bytes (drop 8 bytes) 8 refl (omega (arith, cut, behind.1)) (omega (arith, behind.1)), behind.0)

module _ (t lanes : ℕ) (checked : Bool) where
  -- another page follows only pages of 65536 values
  next_room : (before : ℕ) (pages : List (List ℕ)) (bytes values : List ℕ) → HoldsPages t lanes checked before pages bytes values → 0 < length values
      → before % 65536 ≡ 0
  next_room before [] bytes values holds some = absurd (omega (arith, ap length holds.1, some))
  next_room before (page ∷ pages) bytes values holds some = holds.5

  full_page : (p : ℕ) (page : List ℕ) (pages : List (List ℕ)) (rest here more : List ℕ) → HoldsPage t lanes checked page here
      → HoldsPages t lanes checked (65536 * p + length here) pages rest more → 0 < length more → length here ≡ 65536
  full_page p page pages rest here more own others left =
      omega (arith, next_room (65536 * p + length here) pages rest more others left, own.count, own.is.most, own.is.some)

  module _ (bytes : List ℕ) where
    -- a page that is the one of a number, and has the values of that number
    pub record IsNumbered (pages : List (List ℕ)) (p : ℕ) (values : List ℕ) (i : ℕ) : Type 0 where
      pub below : i < length pages
      pub is : page_bytes bytes (p + i) ≡ get_or pages i []
      pub holds : HoldsPage t lanes checked (page_bytes bytes (p + i)) (page_part values i)

    -- each of the pages from a place on is the one of its number
    pub pages_from : (pages : List (List ℕ)) (p : ℕ) (values : List ℕ) → HoldsPages t lanes checked (65536 * p) pages (drop (page_place bytes p) bytes) values
        → (i : ℕ) → 65536 * i < length values → IsNumbered pages p values i
    pages_from [] p values holds i within = absurd (omega (arith, ap length holds.1, within))
    pages_from (page ∷ pages) p values (rest, here, more, bytes_are, values_are, room, own, others) zero within =
        let at : p + 0 ≡ p = omega arith in
        let is : page_bytes bytes (p + 0) ≡ page =
        ap (page_bytes bytes) at ∙ ap (λ b. take (head_len b) b) bytes_are ∙ page_first t checked page rest own.is in
        let part : page_part values 0 ≡ here = ap (take 65536) values_are ∙ elim (cases_lt 0 (length more)) [
          | inl left ↦ ap (λ n. take n (here ++ more)) (sym (full_page p page pages rest here more own others left)) ∙ take-append_seam here more
          | inr none ↦
              ap (λ m. take 65536 (here ++ m)) (nil_from_length more (omega arith)) ∙ ap (take 65536) (append-nil here)
              ∙ take_all 65536 here (omega (arith, own.count, own.is.most))
        ] in
        record {
          below = omega arith;
          is = is;
          holds = rw (is, part) own;
        }
    pages_from (page ∷ pages) p values (rest, here, more, bytes_are, values_are, room, own, others) (suc i) within =
        let both : length values ≡ length here + length more = ap length values_are ∙ length-append here more in
        let left : 65536 * i < length more = omega (arith, both, within, own.count, own.is.most) in
        let full : length here ≡ 65536 = full_page p page pages rest here more own others (omega (arith, left)) in
        let reached : 65536 * p + length here ≡ 65536 * suc p = omega (arith, full) in
        let follows : rest ≡ drop (page_place bytes (suc p)) bytes =
        sym (page_rest t checked page rest own.is) ∙ ap (λ b. drop (head_len b) b) (sym bytes_are)
        ∙ drop-drop (head_len (drop (page_place bytes p) bytes)) (page_place bytes p) bytes
        in
        let held = rw (reached, follows) at others in
        let next = pages_from pages (suc p) more held i left in
        let at : suc p + i ≡ p + suc i = omega arith in
        let behind : length here + 65536 * i ≡ 65536 * suc i = omega (arith, full) in
        let part : page_part more i ≡ page_part values (suc i) = ap (take 65536)
        (ap (drop (65536 * i)) (sym (drop-append_seam here more)) ∙ drop-drop (65536 * i) (length here) (here ++ more)
        ∙ ap (λ n. drop n (here ++ more)) behind ∙ ap (drop (65536 * suc i)) (sym values_are))
        in
        record {
          below = omega (arith, next.below);
          is = ap (page_bytes bytes) (sym at) ∙ next.is;
          holds = rw (sym at, sym part) next.holds;
        }

-- the pages of a column by their numbers
pub page_is : (t lanes : ℕ) (bytes values : List ℕ) (holds : HoldsColumn t lanes bytes values) (page : ℕ) → 65536 * page < length values
    → IsNumbered t lanes holds.checked bytes holds.pages 0 values page
page_is t lanes bytes values holds page within = pages_from t lanes holds.checked bytes holds.pages 0 values holds.behind page within

-- the values that a column holds are those that its bytes stand for
pub column_values_are : (t lanes : ℕ) (bytes values : List ℕ) → HoldsColumn t lanes bytes values → column_values t lanes bytes ≡ values
unfolding column_values
column_values_are t lanes bytes values holds =
    let count = column_count_is t lanes bytes values holds in
    sym (fill_by_all (column_value t lanes bytes) values (count_of bytes) 0 (sym count) (λ i below.
    let number = i / 65536 in
    let at = page_is t lanes bytes values holds number (omega (arith, count, below)) in
    let none : number ≡ 0 + number = omega arith in
    let part = length-take 65536 (drop (65536 * number) values) in
    let rest = length-drop (65536 * number) values in
    let same : i % 1024 ≡ i % 65536 % 1024 = omega arith in
    let page = page_bytes bytes (0 + number) in
    sym (ap (λ n. get_or (block_values t lanes (page_bytes bytes n) (i % 65536 / 1024)) (i % 1024) 0) none
    ∙ ap (λ n. get_or (block_values t lanes page (i % 65536 / 1024)) n 0) same
    ∙ page_value_is t lanes holds.checked page (page_part values number) (i % 65536) holds.head.size at.holds (omega (arith, part, rest, count, below))
    ∙ at_part 65536 values i (omega arith))))
