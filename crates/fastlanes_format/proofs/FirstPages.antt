-- Pages at the beginning of bytes.
use Rattle.std.proofs.Common.{◌≡◌, ◌≢◌, ℕ, ◌+◌, ◌*◌, ◌%◌, ◌<◌, ◌≤◌, ◌++◌, ◌∙◌, Bool, List, [], ◌∷◌, ap, arith, drop, length, subst, sym, take}
use Rattle.std.specs.Prelude.{Err, Ok, OnErr, Result, sum_by}
use Rattle.std.proofs.Math.Seq.{drop-append_seam, take-append_seam}
use Rattle.std.proofs.lemmas.List.Sums.{sum_by-cons}
use Rattle.std.proofs.lemmas.List.{length-append, length-take-le, take-append-drop}
use Rattle.fastlanes_format.proofs.NumberPlaces.{number_at-append, number_at-take}
use Rattle.fastlanes_format.specs.Format.{ArePages, BeginsWithPage, IsEnd, IsPage, head_len, values_of}

module _ (bits : ℕ) (checked : Bool) (page rest : List ℕ) (is : IsPage bits checked page) where
  pub page_len_is : length page ≡ head_len (page ++ rest)
  page_len_is = let same = number_at-append 4 page rest 8 (omega (arith, is.len)) in omega (arith, same, is.len)

  pub page_first : take (head_len (page ++ rest)) (page ++ rest) ≡ page
  page_first = ap (λ n. take n (page ++ rest)) (sym page_len_is) ∙ take-append_seam page rest

  pub page_rest : drop (head_len (page ++ rest)) (page ++ rest) ≡ rest
  page_rest = ap (λ n. drop n (page ++ rest)) (sym page_len_is) ∙ drop-append_seam page rest

  pub page_inside : head_len (page ++ rest) ≤ length (page ++ rest)
  page_inside = omega (arith, page_len_is, length-append page rest)

  pub page_values : 0 < values_of (page ++ rest)
  page_values = let same = number_at-append 4 page rest 4 (omega (arith, is.len)) in omega (arith, same, is.some)

module _ (bits : ℕ) (checked : Bool) (values : ℕ) where
  -- a page or an end is there as a whole
  pub are_inside : (pages : List (List ℕ)) (bytes : List ℕ) → ArePages bits checked values pages bytes → head_len bytes ≤ length bytes
  are_inside [] bytes are = omega (arith, are.len, are.whole)
  are_inside (page ∷ pages) bytes are = subst (λ b. head_len b ≤ length b) (sym are.1) (page_inside bits checked page are.0 are.3)

  -- bytes that begin with a head of no values are the end
  pub are_end : (pages : List (List ℕ)) (bytes : List ℕ) → values_of bytes ≡ 0 → ArePages bits checked values pages bytes → IsEnd checked values bytes
  are_end [] bytes none are = are
  are_end (page ∷ pages) bytes none are =
      let some : 0 < values_of bytes = subst (λ b. 0 < values_of b) (sym are.1) (page_values bits checked page are.0 are.3) in
      absurd (omega (arith, none, some))

  -- bytes that begin with another head are a page and what follows it
  pub record FirstPage (all : List (List ℕ)) (bytes : List ℕ) : Type 0 where
    pub whole : values % 65536 ≡ 0
    pub page : IsPage bits checked (take (head_len bytes) bytes)
    pub pages : List (List ℕ)
    pub rest : ArePages bits checked (values + values_of (take (head_len bytes) bytes)) pages (drop (head_len bytes) bytes)
    pub total : sum_by values_of all ≡ values_of (take (head_len bytes) bytes) + sum_by values_of pages

  pub are_page : (pages : List (List ℕ)) (bytes : List ℕ) → values_of bytes ≢ 0 → ArePages bits checked values pages bytes → FirstPage pages bytes
  are_page [] bytes some are = absurd (some are.none)
  are_page (page ∷ pages) bytes some are =
      subst (FirstPage (page ∷ pages)) (sym are.1) (record {
        whole = are.2;
        page = subst (IsPage bits checked) (sym (page_first bits checked page are.0 are.3)) are.3;
        pages = pages;
        rest =
            subst (λ p. ArePages bits checked (values + values_of p) pages (drop (head_len (page ++ are.0)) (page ++ are.0))) (sym (page_first bits checked page are.0 are.3))
            (subst (ArePages bits checked (values + values_of page) pages) (sym (page_rest bits checked page are.0 are.3)) are.4);
        total = sum_by-cons values_of page pages ∙ ap (λ p. values_of p + sum_by values_of pages) (sym (page_first bits checked page are.0 are.3));
      })

  module _ (bytes : List ℕ) (len count : ℕ) (next : BeginsWithPage bits checked values bytes len count) where
    next_length : length (take len bytes) ≡ len
    next_length = length-take-le len bytes next.inside

    pub next_len : len ≡ head_len bytes
    next_len =
        let same = number_at-take 4 len bytes 8 (omega (arith, next.page.len)) in
        omega (arith, same, next_length, next.page.len)

    next_some : values_of bytes ≢ 0
    next_some = λ none. let same = number_at-take 4 len bytes 4 (omega (arith, next.page.len)) in omega (arith, same, none, next.page.some)

    -- a page is longer than nothing, and has at most 65536 values
    pub next_most : count ≤ 65536 * len
    next_most = omega (arith, next_length, next.page.len, next.page.most, next.count)

    -- what follows a page, with it
    pub next_before : (pages : List (List ℕ)) → ArePages bits checked (values + count) pages (drop len bytes) → ArePages bits checked values (take len bytes ∷ pages) bytes
    next_before pages are =
        (drop len bytes, sym (take-append-drop len bytes), next.room, next.page, subst (λ n. ArePages bits checked (values + n) pages (drop len bytes)) next.count are)

    -- pages, without the first one
    pub next_after : (pages : List (List ℕ)) → ArePages bits checked values pages bytes → (others : List (List ℕ))
        × ArePages bits checked (values + count) others (drop len bytes) × (sum_by values_of pages ≡ count + sum_by values_of others)
    next_after pages are =
        let first = are_page pages bytes next_some are in (
          first.pages,
          subst (λ n. ArePages bits checked (values + n) first.pages (drop len bytes)) (sym next.count)
              (subst (λ n. ArePages bits checked (values + values_of (take n bytes)) first.pages (drop n bytes)) (sym next_len) first.rest),
          first.total ∙ ap (λ n. values_of (take n bytes) + sum_by values_of first.pages) (sym next_len) ∙ ap (λ n. n + sum_by values_of first.pages) (sym next.count),
        )

-- what holds holds where there is an error
pub on_err : {T E P : Type 0} (r : Result T E) → P → OnErr r P
on_err (Ok x) p = tt
on_err (Err e) p = p
