-- The pages of a column by their numbers.
use Rattle.std.proofs.Common.{◌≡◌, ℕ, ◌+◌, ◌-◌, ◌*◌, ◌<◌, ◌≤◌, ◌++◌, ◌∙◌, Bool, List, [], ◌∷◌, zero, suc, ap, arith, drop, get_or, length, refl, subst, sym, take}
use Rattle.std.proofs.lemmas.List.{drop-drop, get_or-append_right, length-append, length-drop, take-append-drop}
use Rattle.std.proofs.lemmas.List.Sums.{sum_by-cons}
use Rattle.std.specs.Prelude.{sum_by}
use Rattle.fastlanes_format.specs.Format.{AreColumn, ArePages, IsPage, count_of, head_len, number_at, page_bytes, page_place, values_of}
use Rattle.fastlanes_format.proofs.FirstPages.{are_inside, page_first, page_rest}
use Rattle.fastlanes_format.proofs.NumberPlaces.{number_at-same}

-- what bytes end with, they end with behind others too
count_behind : (xs ys : List ℕ) → 8 ≤ length ys → count_of (xs ++ ys) ≡ count_of ys
count_behind xs ys long =
    let all = length-append xs ys in
    let here : length (xs ++ ys) - 8 ≡ length xs + (length ys - 8) = omega (arith, all) in
    ap (number_at 8 (xs ++ ys)) here
    ∙ number_at-same 8 (xs ++ ys) ys (length xs + (length ys - 8)) (length ys - 8)
    (λ k below. get_or-append_right xs ys (length xs) (length xs + (length ys - 8) + k) 0 refl (omega arith) ∙ ap (λ m. get_or ys m 0) (omega arith))

-- pages and the end are as long as the end, and the last bytes tell how many values there are
counted : (bits : ℕ) (checked : Bool) (pages : List (List ℕ)) (before : ℕ) (bytes : List ℕ) → ArePages bits checked before pages bytes
    → (24 ≤ length bytes) × (count_of bytes ≡ before + sum_by values_of pages)
counted bits checked [] before bytes are =
    let at : length bytes - 8 ≡ 16 = omega (arith, are.whole) in
    let all : count_of bytes ≡ before = ap (number_at 8 bytes) at ∙ are.all in
    (omega (arith, are.whole), omega (arith, all))
counted bits checked (page ∷ pages) before bytes are =
    let rest = counted bits checked pages (before + values_of page) are.0 are.4 in
    let long = ap length are.1 in (
      omega (arith, rest.0, long, length-append page are.0),
      ap count_of are.1 ∙ count_behind page are.0 (omega (arith, rest.0)) ∙ omega (arith, rest.1, sum_by-cons values_of page pages),
    )

module _ (bits : ℕ) (bytes : List ℕ) (column : AreColumn bits bytes) where
  pub column_count : count_of bytes ≡ sum_by values_of column.pages
  column_count =
      let behind = counted bits column.checked column.pages 0 (drop 8 bytes) column.is.behind in
      let same = ap count_of (sym (take-append-drop 8 bytes)) ∙ count_behind (take 8 bytes) (drop 8 bytes) (omega (arith, behind.0)) in
      omega (arith, same, behind.1)

  -- the pages from this number on
  abbrev PagesFrom : ℕ → Type 0
  PagesFrom page = (pages : List (List ℕ)) × ArePages bits column.checked (65536 * page) pages (drop (page_place bytes page) bytes)
      × (65536 * page + sum_by values_of pages ≡ count_of bytes)

  next_from : (page : ℕ) (pages : List (List ℕ)) → ArePages bits column.checked (65536 * page) pages (drop (page_place bytes page) bytes)
      → 65536 * page + sum_by values_of pages ≡ count_of bytes → 65536 * suc page < count_of bytes → PagesFrom (suc page)
  next_from page [] are sum more = absurd (omega (arith, sum, more))
  next_from page (first ∷ []) are sum more = absurd (omega (arith, sum, more, sum_by-cons values_of first [], are.3.most))
  next_from page (first ∷ (second ∷ others)) are sum more =
      let full : values_of first ≡ 65536 = omega (arith, are.4.2, are.3.most, are.3.some) in
      let here : 65536 * page + values_of first ≡ 65536 * suc page = omega (arith, full) in
      let len : head_len (first ++ are.0) ≡ head_len (drop (page_place bytes page) bytes) = ap head_len (sym are.1) in
      let rest : are.0 ≡ drop (page_place bytes (suc page)) bytes =
      sym (page_rest bits column.checked first are.0 are.3) ∙ ap (λ n. drop n (first ++ are.0)) len
      ∙ ap (drop (head_len (drop (page_place bytes page) bytes))) (sym are.1)
      ∙ drop-drop (head_len (drop (page_place bytes page) bytes)) (page_place bytes page) bytes
      in (
        second ∷ others,
        subst (ArePages bits column.checked (65536 * suc page) (second ∷ others)) rest
            (subst (λ n. ArePages bits column.checked n (second ∷ others) are.0) here are.4),
        omega (arith, full, sum, sum_by-cons values_of first (second ∷ others)),
      )

  from : (page : ℕ) → 65536 * page < count_of bytes → PagesFrom page
  from zero some = (column.pages, column.is.behind, omega (arith, column_count))
  from (suc page) some = let before = from page (omega (arith, some)) in next_from page before.0 before.1 before.2 some

  -- a page of a column: where it ends, and how many values it has
  pub record PageAt (page : ℕ) : Type 0 where
    pub is : IsPage bits column.checked (page_bytes bytes page)
    pub inside : page_place bytes (suc page) ≤ length bytes
    pub most : 65536 * page + values_of (page_bytes bytes page) ≤ count_of bytes
    pub full : 65536 * suc page ≤ count_of bytes → values_of (page_bytes bytes page) ≡ 65536
    pub last : count_of bytes ≤ 65536 * suc page → 65536 * page + values_of (page_bytes bytes page) ≡ count_of bytes

  here_at : (page : ℕ) (pages : List (List ℕ)) → ArePages bits column.checked (65536 * page) pages (drop (page_place bytes page) bytes)
      → 65536 * page + sum_by values_of pages ≡ count_of bytes → 65536 * page < count_of bytes → PageAt page
  here_at page [] are sum some = absurd (omega (arith, sum, some))
  here_at page (first ∷ others) are sum some =
      let own : first ≡ page_bytes bytes page =
      sym (page_first bits column.checked first are.0 are.3) ∙ ap (λ b. take (head_len b) b) (sym are.1) in
      let inside = are_inside bits column.checked (65536 * page) (first ∷ others) (drop (page_place bytes page) bytes) are in
      let count : values_of first ≡ values_of (page_bytes bytes page) = ap values_of own in
      let all = sum_by-cons values_of first others in
      record {
        is = subst (IsPage bits column.checked) own are.3;
        inside = omega (arith, inside, length-drop (page_place bytes page) bytes);
        most = omega (arith, count, sum, all);
        full = λ more. omega (arith, count, full_first page first others are.0 are.3 are.4 (omega (arith, sum, all)) more);
        last = λ less. omega (arith, count, last_first page first others are.0 are.3 are.4 (omega (arith, sum, all)) less);
      }
    where
      full_first : (page : ℕ) (first : List ℕ) (others : List (List ℕ)) (rest : List ℕ) → IsPage bits column.checked first
          → ArePages bits column.checked (65536 * page + values_of first) others rest → 65536 * page + (values_of first + sum_by values_of others) ≡ count_of bytes
          → 65536 * suc page ≤ count_of bytes → values_of first ≡ 65536
      full_first page first [] rest is are sum more = omega (arith, is.most, sum, more)
      full_first page first (second ∷ others) rest is are sum more = omega (arith, are.2, is.most, is.some)

      last_first : (page : ℕ) (first : List ℕ) (others : List (List ℕ)) (rest : List ℕ) → IsPage bits column.checked first
          → ArePages bits column.checked (65536 * page + values_of first) others rest → 65536 * page + (values_of first + sum_by values_of others) ≡ count_of bytes
          → count_of bytes ≤ 65536 * suc page → 65536 * page + values_of first ≡ count_of bytes
      last_first page first [] rest is are sum less = omega (arith, sum)
      last_first page first (second ∷ others) rest is are sum less =
          absurd (omega (arith, are.2, is.most, is.some, are.3.some, sum, less, sum_by-cons values_of second others))

  pub page_at : (page : ℕ) → 65536 * page < count_of bytes → PageAt page
  page_at page some = let all = from page some in here_at page all.0 all.1 all.2 some
