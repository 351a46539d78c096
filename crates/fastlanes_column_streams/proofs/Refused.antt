-- Bytes that are refused: they are not pages and the end.
use Rattle.std.proofs.Common.{◌≡◌, ◌≢◌, ℕ, ◌+◌, ◌-◌, ◌*◌, ◌%◌, ◌^◌, ◌<◌, ◌≤◌, ◌⊎◌, ◌++◌, ◌∙◌, Bool, List, [], ◌∷◌, zero, suc, ap, arith, drop, get_or, inl, inr, length, refl, subst, sym, take}
use Rattle.std.proofs.Math.Seq.{drop-append_seam, take-append_seam}
use Rattle.std.proofs.lemmas.Bool.{cases_eq, cases_lt}
use Rattle.std.proofs.lemmas.List.{append-nil, get_or-append-add, get_or_past, length-append, length-take-le}
use Rattle.std.proofs.lemmas.List.Elements.{All-drop, All-get_or}
use Rattle.fastlanes_format.proofs.BlockPlaces.{page_longest}
use Rattle.fastlanes_format.proofs.FirstPages.{are_end, are_page, next_after, page_len_is}
use Rattle.fastlanes_format.proofs.NumberPlaces.{number_at-append}
use Rattle.fastlanes_format.specs.Format.{ArePages, BeginsWithPage, IsEnd, IsPage, head_len, longest_page, number_at, values_of}
use Rattle.fastlanes_streams.specs.Stream.{Gives, Source}
use Rattle.fastlanes_column_streams.specs.Refusals.{AreBytes, AreNoPages, LacksRoom, Refuses, RefusesPages}
use Rattle.fastlanes_column_streams.specs.declared.error.StreamError.{StreamError}
use Rattle.fastlanes_column_streams.specs.declared.error.StreamError.TheVariants.{ReadFailed, Refused, ShortValue, TooMany, WriteFailed}

-- no bytes
pub none_left : (bytes : List ℕ) → length bytes ≡ 0 → bytes ≡ []
none_left [] none = refl
none_left (byte ∷ bytes) none = absurd (omega arith)

-- a number of n bytes
number_below : (n : ℕ) (bytes : List ℕ) (at : ℕ) → ((i : ℕ) → get_or bytes i 0 < 256) → number_at n bytes at < 256 ^ n
number_below zero bytes at small = omega arith
number_below (suc n) bytes at small =
    let rest = number_below n bytes (at + 1) small in
    let first = small at in
    omega (arith, rest, first)

module _ (bits : ℕ) (checked : Bool) where
  -- a page or an end is no longer than the longest page
  pub too_long : (before : ℕ) (bytes : List ℕ) → longest_page bits < head_len bytes → AreNoPages bits checked before bytes
  too_long before bytes long [] are = omega (arith, are.len, long)
  too_long before bytes long (page ∷ pages) are =
      let same : length page ≡ head_len bytes = subst (λ b. length page ≡ head_len b) (sym are.1) (page_len_is bits checked page are.0 are.3) in
      omega (arith, same, long, page_longest bits checked page are.3)

  module _ (before : ℕ) (bytes rest : List ℕ) where
    -- the head of bytes, and of others behind them
    len_stays : length bytes ≡ head_len bytes → head_len (bytes ++ rest) ≡ length bytes
    len_stays whole = let same = number_at-append 4 bytes rest 8 (omega (arith, whole)) in omega (arith, same, whole)

    values_stay : length bytes ≡ head_len bytes → values_of (bytes ++ rest) ≡ values_of bytes
    values_stay whole = number_at-append 4 bytes rest 4 (omega (arith, whole))

    -- bytes that are as many as a page says, and no page
    pub no_first_page : length bytes ≡ head_len bytes → values_of bytes ≢ 0 → ¬ (IsPage bits checked bytes) → AreNoPages bits checked before (bytes ++ rest)
    no_first_page whole some other pages are =
        let values = values_stay whole in
        let first = are_page bits checked before pages (bytes ++ rest) (λ none. some (sym values ∙ none)) are in
        let same : take (head_len (bytes ++ rest)) (bytes ++ rest) ≡ bytes =
        ap (λ n. take n (bytes ++ rest)) (len_stays whole) ∙ take-append_seam bytes rest in
        other (subst (IsPage bits checked) same first.page)

    -- other bytes, which are no pages
    pub no_next : length bytes ≤ head_len bytes → (length bytes < head_len bytes → rest ≡ [])
        → (length bytes ≡ head_len bytes → values_of bytes ≢ 0 → before % 65536 ≢ 0)
        → AreNoPages bits checked before bytes → AreNoPages bits checked before (bytes ++ rest)
    no_next no_more ended filled others pages are = elim (cases_lt (length bytes) (head_len bytes)) [
      | inl short ↦
          let same : bytes ++ rest ≡ bytes = ap (λ r. bytes ++ r) (ended short) ∙ append-nil bytes in
          others pages (subst (ArePages bits checked before pages) same are)
      | inr long ↦
          let whole : length bytes ≡ head_len bytes = omega (arith, no_more, long) in
          let values = values_stay whole in
          elim (cases_eq (values_of bytes) 0) [
            | inl none ↦
                let end = are_end bits checked before pages (bytes ++ rest) (values ∙ none) are in
                let len = len_stays whole in
                let empty : rest ≡ [] = none_left rest (omega (arith, len, end.len, end.whole, length-append bytes rest)) in
                let same : bytes ++ rest ≡ bytes = ap (λ r. bytes ++ r) empty ∙ append-nil bytes in
                others [] (subst (IsEnd checked before) same end)
            | inr some ↦
                let first = are_page bits checked before pages (bytes ++ rest) (λ none. some (sym values ∙ none)) are in
                filled whole some first.whole
          ]
    ]

    -- an end that bytes follow
    pub no_last : IsEnd checked before bytes → rest ≢ [] → AreNoPages bits checked before (bytes ++ rest)
    no_last end some pages are =
        let values = values_stay (omega (arith, end.len, end.whole)) in
        let all = are_end bits checked before pages (bytes ++ rest) (values ∙ end.none) are in
        some (none_left rest (omega (arith, all.whole, end.whole, length-append bytes rest)))

  -- whatever pages all bytes are, those that are left are the rest of them
  pub record RestOfPages (done : ℕ) (first left : List ℕ) : Type 0 where
    pub others : (all : List (List ℕ)) → ArePages bits checked 0 all first → (pages : List (List ℕ)) × ArePages bits checked done pages left
    pub bytes : AreBytes first → AreBytes left

  pub rest_first : (first : List ℕ) → RestOfPages 0 first first
  rest_first first = record { others = λ all are. (all, are); bytes = λ are. are }

  bytes_behind : (page rest : List ℕ) → AreBytes (page ++ rest) → AreBytes rest
  bytes_behind page rest are = subst AreBytes (drop-append_seam page rest) (All-drop (λ byte. byte < 256) (length page) (page ++ rest) are)

  -- one more page is given
  pub rest_more : {from from' : Source} (done len count : ℕ) (first buffer : List ℕ) → RestOfPages done first from.left
      → BeginsWithPage bits checked done buffer len count → Gives from (take len buffer) from' → RestOfPages (done + count) first from'.left
  rest_more {from = from} {from' = from'} done len count first buffer before begins gives =
      let page = take len buffer in
      let long : length page ≡ len = length-take-le len buffer begins.inside in
      let taken : take len (page ++ from'.left) ≡ page = ap (λ n. take n (page ++ from'.left)) (sym long) ∙ take-append_seam page from'.left in
      let behind : drop len (page ++ from'.left) ≡ from'.left = ap (λ n. drop n (page ++ from'.left)) (sym long) ∙ drop-append_seam page from'.left in
      let next : BeginsWithPage bits checked done (page ++ from'.left) len count = record {
        inside = omega (arith, long, length-append page from'.left);
        room = begins.room;
        page = subst (IsPage bits checked) (sym taken) begins.page;
        count = begins.count ∙ ap values_of (sym taken);
      } in
      record {
        others = λ all are.
            let now = before.others all are in
            let after = next_after bits checked done (page ++ from'.left) len count next now.0 (subst (ArePages bits checked done now.0) gives.left now.1) in
            (after.0, subst (ArePages bits checked (done + count) after.0) behind after.1);
        bytes = λ are. bytes_behind page from'.left (subst AreBytes gives.left (before.bytes are));
      }

  -- where the rest is no pages, all bytes are none
  pub none_before : (done : ℕ) (first left : List ℕ) → RestOfPages done first left → AreNoPages bits checked done left → AreNoPages bits checked 0 first
  none_before done first left rest none all are = let now = rest.others all are in none now.0 now.1

  -- the end cannot count 2 ^ 64 values
  too_many : (pages : List (List ℕ)) (values : ℕ) (bytes : List ℕ) → 2 ^ 64 ≤ values → ((i : ℕ) → get_or bytes i 0 < 256)
      → ¬ (ArePages bits checked values pages bytes)
  too_many [] values bytes most small are = let below = number_below 8 bytes 16 small in omega (arith, below, are.all, most)
  too_many (page ∷ pages) values bytes most small are =
      let behind : (i : ℕ) → get_or are.0 i 0 < 256 = λ i.
      subst (λ b. b < 256) (get_or-append-add page are.0 i 0) (subst (λ b. get_or b (length page + i) 0 < 256) are.1 (small (length page + i))) in
      too_many pages (values + values_of page) are.0 (omega (arith, most)) behind are.4

  all_small : (bytes : List ℕ) → AreBytes bytes → (i : ℕ) → get_or bytes i 0 < 256
  all_small bytes are i = elim (cases_lt i (length bytes)) [
    | inl inside ↦ All-get_or (λ b. b < 256) bytes i 0 inside are
    | inr behind ↦ let out = get_or_past bytes i 0 behind in omega (arith, out)
  ]

  pub no_end_counts : (done : ℕ) (first left : List ℕ) → RestOfPages done first left → 2 ^ 64 ≤ done → AreBytes first → AreNoPages bits checked 0 first
  no_end_counts done first left rest most are =
      none_before done first left rest (λ pages. too_many pages done left most (all_small left (rest.bytes are)))

-- a refusal for a reason is one for another that follows from it
refuses_weaker : {P Q : Type 0} (e : StreamError) → (P → Q) → Refuses e P → Refuses e Q
refuses_weaker (Refused error) step reason = step reason
refuses_weaker ReadFailed step reason = reason
refuses_weaker (ShortValue count) step reason = reason
refuses_weaker TooMany step reason = reason
refuses_weaker WriteFailed step reason = reason

-- the same, of all pages
refuses_pages : {P Q : Type 0} (R : Type 0) (e : StreamError) → (P → Q) → Refuses e P → RefusesPages e Q R
refuses_pages R (Refused error) step reason = step reason
refuses_pages R ReadFailed step reason = tt
refuses_pages R (ShortValue count) step reason = reason
refuses_pages R TooMany step reason = absurd reason
refuses_pages R WriteFailed step reason = absurd reason

module _ (bits : ℕ) (checked : Bool) where
  -- what declares to be longer than the longest page is no page
  pub refuses_long : (before room : ℕ) (left : List ℕ) (e : StreamError) → Refuses e ((longest_page bits < head_len left) ⊎ LacksRoom bits room left)
      → Refuses e (AreNoPages bits checked before left ⊎ LacksRoom bits room left)
  refuses_long before room left e =
      let step : (longest_page bits < head_len left) ⊎ LacksRoom bits room left → AreNoPages bits checked before left ⊎ LacksRoom bits room left =
      λ why. elim why [ inl long ↦ inl (too_long bits checked before left long) | inr lacks ↦ inr lacks ] in
      refuses_weaker e step

  -- nor is an end that bytes follow
  pub refuses_trailing : (before room : ℕ) (end rest left : List ℕ) (e : StreamError) → left ≡ end ++ rest → IsEnd checked before end → Refuses e (rest ≢ [])
      → Refuses e (AreNoPages bits checked before left ⊎ LacksRoom bits room left)
  refuses_trailing before room end rest left e all is =
      let step : rest ≢ [] → AreNoPages bits checked before left ⊎ LacksRoom bits room left =
      λ some. inl (subst (AreNoPages bits checked before) (sym all) (no_last bits checked before end rest is some)) in
      refuses_weaker e step

  -- where the rest is refused, all bytes are
  pub refuses_before : (done room : ℕ) (first left : List ℕ) (e : StreamError) → RestOfPages bits checked done first left
      → Refuses e (AreNoPages bits checked done left ⊎ LacksRoom bits room left)
      → RefusesPages e (AreNoPages bits checked 0 first ⊎ (room < longest_page bits)) (AreBytes first → AreNoPages bits checked 0 first)
  refuses_before done room first left e rest =
      let step : AreNoPages bits checked done left ⊎ LacksRoom bits room left → AreNoPages bits checked 0 first ⊎ (room < longest_page bits) =
      λ why. elim why [ inl none ↦ inl (none_before bits checked done first left rest none) | inr lacks ↦ inr (omega (arith, lacks.0, lacks.1)) ] in
      refuses_pages (AreBytes first → AreNoPages bits checked 0 first) e step
