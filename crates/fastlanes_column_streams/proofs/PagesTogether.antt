-- Pages one behind another.
use Rattle.std.proofs.Common.{◌≡◌, ℕ, ◌+◌, ◌-◌, ◌*◌, ◌%◌, ◌<◌, ◌≤◌, ◌∙◌, ◌++◌, Bool, List, [], ◌∷◌, ap, append_assoc, arith, below_more, drop, get_or, inl, inr, length, refl, subst, sym, take}
use Rattle.std.proofs.Math.Seq.{drop-append-le, drop-append_seam, take-append_seam}
use Rattle.std.proofs.lemmas.Bool.{cases_eq, cases_lt}
use Rattle.std.proofs.lemmas.Grind.{flat_map-append}
use Rattle.std.proofs.lemmas.List.{append-nil, get_or-append-add, get_or_push, length-append, length-drop, length_push, take-append-le, take_all}
use Rattle.std.proofs.Math.ListN.{get_or-append}
use Rattle.fastlanes_bytes.specs.Bytes.{bytes_of, word_bytes}
use Rattle.fastlanes_format.specs.Format.{BeginsWithPage, IsColumnHead, IsEnd}
use Rattle.fastlanes_pages.specs.Encoded.{HaveShortestBlocks, page_part}
use Rattle.fastlanes_pages.specs.Shortest.{HasShortestBlocks}
use Rattle.fastlanes_pages.specs.Values.{HoldsPage, HoldsPages}
use Rattle.fastlanes_streams.specs.Stream.{Delivers, Gives, Sink, Source, Takes}
use Rattle.fastlanes_column_streams.specs.Pages.{ArePagesSoFar, Decodes, DecodesPages, Encodes, EncodesNext, EncodesPages, GivesPages, GivesRest, WritesValues}
use Rattle.fastlanes_column_streams.specs.Single.{Finds, FindsPages, PicksPage}
use Rattle.fastlanes_column_streams.specs.Transfer.{GivesEnd}
use Rattle.fastlanes_streams.proofs.Moves.{Gives-append, Takes-append}
use Rattle.fastlanes_column_streams.proofs.Together.{Takes-Delivers, none_given, none_taken}

module _ (t lanes : ℕ) (checked : Bool) where
  -- none so far
  pub no_pages : ArePagesSoFar t lanes checked 0 [] []
  no_pages = record { pages = []; many = refl; full = λ whole. refl; followed = λ others rest more holds. holds }

  -- one more page
  pub pages_more : (count n : ℕ) (bytes values page here : List ℕ) → ArePagesSoFar t lanes checked count bytes values → count % 65536 ≡ 0 → count + length here ≡ n
      → HoldsPage t lanes checked page here → ArePagesSoFar t lanes checked n (bytes ++ page) (values ++ here)
  pages_more count n bytes values page here so_far room sum is =
      let pages = so_far.pages in
      record {
        pages = pages ++ page ∷ [];
        many = omega (arith, length-append values here, so_far.many, sum);
        full = λ whole. omega (arith, length_push pages page, so_far.full room, room, sum, whole, is.count, is.is.some, is.is.most);
        followed = λ others rest more holds.
            let from : HoldsPages t lanes checked (count + length here) others rest more = rw sum holds in
            rw (append_assoc bytes page rest, append_assoc values here more, append_assoc pages (page ∷ []) others)
            (so_far.followed (page ∷ others) (page ++ rest) (here ++ more) (rest, here, more, refl, refl, room, is, from));
      }

  -- and the end
  pub pages_end : (count : ℕ) (bytes values end : List ℕ) (so_far : ArePagesSoFar t lanes checked count bytes values) → IsEnd checked count end
      → HoldsPages t lanes checked 0 so_far.pages (bytes ++ end) values
  pages_end count bytes values end so_far is =
      rw (append-nil so_far.pages, append-nil values) at (so_far.followed [] end [] (is, refl))

  -- none of the blocks of one more page is longer than it has to be
  shortest_more : (frames_only : Bool) (pages : List (List ℕ)) (values page here : List ℕ) → length values ≡ 65536 * length pages → length here ≤ 65536
      → HaveShortestBlocks t frames_only pages values → HasShortestBlocks t frames_only page here
      → HaveShortestBlocks t frames_only (pages ++ page ∷ []) (values ++ here)
  shortest_more frames_only pages values page here full most before last k fewer =
      let n = length pages in
      let old : (m : ℕ) → m < n → page_part (values ++ here) m ≡ page_part values m = λ m under.
      ap (take 65536) (drop-append-le (65536 * m) values here (omega (arith, full, under)))
      ∙ take-append-le 65536 (drop (65536 * m) values) here (omega (arith, full, under, length-drop {A = ℕ})) in
      let new : page_part (values ++ here) n ≡ here =
      ap (λ (m : ℕ). take 65536 (drop m (values ++ here))) (sym full) ∙ ap (take 65536) (drop-append_seam values here) ∙ take_all 65536 here most in
      below_more (λ (m : ℕ). HasShortestBlocks t frames_only (get_or (pages ++ page ∷ []) m []) (page_part (values ++ here) m)) n
      (λ m under. rw (get_or-append pages (page ∷ []) [] m under, old m under) (before m under))
      (rw (get_or_push pages page [] n refl, new) last)
      k (omega (arith, length_push pages page, fewer))

  -- the bytes of values behind others
  bytes_more : (first second : List ℕ) → bytes_of t (first ++ second) ≡ bytes_of t first ++ bytes_of t second
  bytes_more first second = flat_map-append (word_bytes t) first second

  -- no page was written so far
  pub encodes_none : (frames_only : Bool) (from : Source) (to : Sink) → EncodesPages t lanes frames_only checked 0 from from to to
  unfolding no_pages
  encodes_none frames_only from to = record {
    values = [];
    bytes = [];
    gives = none_given from;
    takes = none_taken to;
    so_far = no_pages;
    shortest = λ page below. absurd (omega arith);
  }

  -- of as many bytes
  none : (xs : List ℕ) → length xs ≡ 0 → xs ≡ []
  none [] empty = refl
  none (x ∷ xs) empty = absurd (omega arith)

  -- one more is written, or none
  pub encodes_more : (frames_only : Bool) {from between from' : Source} {to middle to' : Sink} (done count : ℕ)
      → EncodesPages t lanes frames_only checked done from between to middle → done % 65536 ≡ 0 → EncodesNext t lanes frames_only checked count between from' middle to'
      → EncodesPages t lanes frames_only checked (done + count) from from' to to'
  unfolding pages_more
  encodes_more frames_only {from = from} {from' = from'} {to = to} {to' = to'} done count first room next =
      let gives : Gives from (bytes_of t (first.values ++ next.values)) from' =
      subst (λ b. Gives from b from') (sym (bytes_more first.values next.values)) (Gives-append first.gives next.gives) in
      let takes : Takes to (first.bytes ++ next.page) to' = Takes-append first.takes next.takes in
      elim (cases_eq count 0) [
        | inl empty ↦
            let same : done ≡ done + count = omega (arith, empty) in
            let no_bytes : first.bytes ++ next.page ≡ first.bytes = ap (λ b. first.bytes ++ b) (next.none empty) ∙ append-nil first.bytes in
            let no_values : first.values ++ next.values ≡ first.values = ap (λ v. first.values ++ v) (none next.values (next.many ∙ empty)) ∙ append-nil first.values in
            record {
              values = first.values;
              bytes = first.bytes;
              gives = rw no_values at gives;
              takes = rw no_bytes at takes;
              so_far = record {
                pages = first.so_far.pages;
                many = omega (arith, first.so_far.many, empty);
                full = λ whole. omega (arith, first.so_far.full room, empty);
                followed = λ others rest more holds. first.so_far.followed others rest more (rw same holds);
              };
              shortest = first.shortest;
            }
        | inr other ↦
            let some : 0 < count = omega (arith, other) in
            let holds = next.holds some in
            let full : length first.values ≡ 65536 * length first.so_far.pages = omega (arith, first.so_far.many, first.so_far.full room) in
            record {
              values = first.values ++ next.values;
              bytes = first.bytes ++ next.page;
              gives = gives;
              takes = takes;
              so_far = pages_more done (done + count) first.bytes first.values next.page next.values first.so_far room (omega (arith, next.many)) holds;
              shortest = shortest_more frames_only first.so_far.pages first.values next.page next.values full (omega (arith, holds.count, holds.is.most)) first.shortest
                  (next.shortest some);
            }
      ]

  -- no page was given so far
  pages_none : (from : Source) → GivesPages t lanes checked 0 from from []
  pages_none from = record { bytes = []; gives = none_given from; so_far = no_pages }

  -- one more is given
  page_given : {from between from' : Source} (done len count : ℕ) (buffer values here : List ℕ) → GivesPages t lanes checked done from between values
      → BeginsWithPage t checked done buffer len count → Gives between (take len buffer) from' → HoldsPage t lanes checked (take len buffer) here
      → length here ≡ count → GivesPages t lanes checked (done + count) from from' (values ++ here)
  page_given done len count buffer values here first page gives holds same =
      record {
        bytes = first.bytes ++ take len buffer;
        gives = Gives-append first.gives gives;
        so_far = pages_more done (done + count) first.bytes values (take len buffer) here first.so_far page.room (omega (arith, same)) holds;
      }

  -- and the end
  end_given : {from between from' : Source} (done all : ℕ) (values : List ℕ) → GivesPages t lanes checked done from between values
      → GivesEnd checked done between from' → all ≡ done → GivesRest t lanes checked all from from' values
  end_given done all values first end same =
      record {
        bytes = first.bytes ++ end.end;
        pages = first.so_far.pages;
        gives = Gives-append first.gives end.gives;
        ended = end.ended;
        holds = pages_end done first.bytes values end.end first.so_far end.is;
        many = first.so_far.many ∙ sym same;
      }

  -- none was read so far
  pub decodes_none : (from : Source) (to : Sink) → DecodesPages t lanes checked 0 from from to to
  decodes_none from to = record { values = []; pages = pages_none from; takes = none_taken to }

  -- one more is read, and its values are written
  pub decodes_more : {from between from' : Source} {to middle to' : Sink} (done len count : ℕ) (buffer : List ℕ) → DecodesPages t lanes checked done from between to middle
      → BeginsWithPage t checked done buffer len count → Gives between (take len buffer) from' → WritesValues t lanes checked (take len buffer) middle to'
      → DecodesPages t lanes checked (done + count) from from' to to'
  decodes_more {to = to} {to' = to'} done len count buffer first page gives writes =
      let same : length writes.values ≡ count = omega (arith, page.count, writes.holds.count) in
      record {
        values = first.values ++ writes.values;
        pages = page_given done len count buffer first.values writes.values first.pages page gives writes.holds same;
        takes = subst (λ b. Takes to b to') (sym (bytes_more first.values writes.values)) (Takes-append first.takes writes.takes);
      }

  -- the end is read, and the sink is flushed
  pub decodes_all : {from between from' : Source} {to middle to' : Sink} (done all : ℕ) → DecodesPages t lanes checked done from between to middle
      → GivesEnd checked done between from' → all ≡ done → Delivers middle [] to' → Decodes t lanes checked all from from' to to'
  decodes_all {to = to} {to' = to'} done all first end same last =
      record {
        values = first.values;
        rest = end_given done all first.values first.pages end same;
        delivers = subst (λ b. Delivers to b to') (append-nil (bytes_of t first.values)) (Takes-Delivers first.takes last);
      }

  -- all is written
  pub encodes_all : (frames_only : Bool) {from from' : Source} {to started middle to' : Sink} (count : ℕ) (head end : List ℕ) → IsColumnHead t checked head
      → Takes to head started → EncodesPages t lanes frames_only checked count from from' started middle → from'.left ≡ [] → IsEnd checked count end
      → Delivers middle end to' → Encodes t lanes frames_only checked from from' to to'
  encodes_all frames_only count head end is_head first pages ended is_end last =
      let behind = pages.bytes ++ end in
      let begins : take 8 (head ++ behind) ≡ head = ap (λ n. take n (head ++ behind)) (sym is_head.whole) ∙ take-append_seam head behind in
      let follows : drop 8 (head ++ behind) ≡ behind = ap (λ n. drop n (head ++ behind)) (sym is_head.whole) ∙ drop-append_seam head behind in
      record {
        values = pages.values;
        column = head ++ behind;
        gives = pages.gives;
        ended = ended;
        pages = pages.so_far.pages;
        head = rw begins is_head;
        behind = rw follows (pages_end count pages.bytes pages.values end pages.so_far is_end);
        shortest = pages.shortest;
        delivers = Takes-Delivers first (Takes-Delivers pages.takes last);
      }

  -- none was found so far
  pub finds_none : (from : Source) (numbers found : List ℕ) → FindsPages t lanes checked 0 from from numbers found
  finds_none from numbers found = record { values = []; pages = pages_none from; are_found = λ k within below. absurd (omega arith) }

  -- one more page is read
  pub finds_more : {from between from' : Source} (done len count : ℕ) (buffer numbers old new : List ℕ) → FindsPages t lanes checked done from between numbers old
      → BeginsWithPage t checked done buffer len count → Gives between (take len buffer) from' → PicksPage t lanes checked done (take len buffer) numbers old new
      → FindsPages t lanes checked (done + count) from from' numbers new
  finds_more done len count buffer numbers old new first page gives picks =
      let same : length picks.values ≡ count = omega (arith, page.count, picks.holds.count) in
      record {
        values = first.values ++ picks.values;
        pages = page_given done len count buffer first.values picks.values first.pages page gives picks.holds same;
        are_found = λ k within below.
            let n = get_or numbers k 0 in
            let one = picks.picks k within in
            let many = first.pages.so_far.many in
            elim (cases_lt n done) [
              | inl before ↦ one.below before ∙ first.are_found k within before ∙ sym (get_or-append first.values picks.values 0 n (omega (arith, many, before)))
              | inr behind ↦
                  let place : length first.values + (n - done) ≡ n = omega (arith, many, behind) in
                  one.inside behind (omega (arith, below, same)) ∙ sym (get_or-append-add first.values picks.values (n - done) 0)
                  ∙ ap (λ i. get_or (first.values ++ picks.values) i 0) place
            ];
      }

  -- the end is read
  pub finds_all : {from between from' : Source} (done all : ℕ) (numbers found : List ℕ) → FindsPages t lanes checked done from between numbers found
      → GivesEnd checked done between from' → all ≡ done → Finds t lanes checked all from from' numbers found
  finds_all done all numbers found first end same =
      record {
        values = first.values;
        rest = end_given done all first.values first.pages end same;
        are_found = λ k within below. first.are_found k within (omega (arith, below, same));
      }
