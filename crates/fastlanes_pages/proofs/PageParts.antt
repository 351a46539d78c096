-- Pages one after another, and how long they are.
use Rattle.std.proofs.Common.{◌≡◌, ℕ, ◌+◌, ◌-◌, ◌*◌, ◌/◌, ◌%◌, ◌<◌, ◌≤◌, ◌∙◌, ◌++◌, Bool, List, [], ◌∷◌, ap, append_assoc, arith, below_more, drop, get_or, length, map, min, refl, subst, sym, take}
use Rattle.std.proofs.Math.ListN.{get_or-append}
use Rattle.std.proofs.Math.Nat.{mul-le-mul_left}
use Rattle.std.proofs.Math.Seq.{take-add}
use Rattle.std.proofs.lemmas.List.{append-nil, drop-map, get_or_push, length-append, length-drop, length-take, length-take-le, length_push, take-map, take_all}
use Rattle.std.proofs.lemmas.Slice.{between_to_end}
use Rattle.std.specs.List.{between}
use Rattle.fastlanes_format.specs.Format.{IsEnd}
use Rattle.fastlanes_pages.specs.Encoded.{HaveShortestBlocks, page_part, pages_most}
use Rattle.fastlanes_pages.specs.Shortest.{HasShortestBlocks, page_most}
use Rattle.fastlanes_pages.specs.Values.{HoldsPage, HoldsPages}

module _ (t lanes : ℕ) (checked frames_only : Bool) (values : List ℕ) where
  -- these bytes are n pages, whose blocks are as short as they can be: whatever pages and end follow, all of it is pages and the end
  pub record AreSoFar (bytes : List ℕ) (n : ℕ) : Type 0 where
    pub pages : List (List ℕ)
    pub count : length pages ≡ n
    pub shortest : HaveShortestBlocks t frames_only pages values
    pub whole : (others : List (List ℕ)) (rest more : List ℕ) → HoldsPages t lanes checked (length (take (65536 * n) values)) others rest more
        → HoldsPages t lanes checked 0 (pages ++ others) (bytes ++ rest) (take (65536 * n) values ++ more)

  -- before the first page there are none
  pub none_so_far : AreSoFar [] 0
  none_so_far = record { pages = []; count = refl; shortest = λ page below. absurd (omega arith); whole = λ others rest more holds. holds }

  -- one page more
  pub pages_more : (bytes page : List ℕ) (n : ℕ) → 65536 * n < length values → HoldsPage t lanes checked page (page_part values n)
      → HasShortestBlocks t frames_only page (page_part values n) → AreSoFar bytes n → AreSoFar (bytes ++ page) (n + 1)
  pages_more bytes page n below is short before =
      let first = take (65536 * n) values in
      let here = page_part values n in
      let pages = before.pages in
      let start : length first ≡ 65536 * n = length-take-le (65536 * n) values (omega arith) in
      let next : 65536 * (n + 1) ≡ 65536 * n + 65536 = omega arith in
      let both : take (65536 * (n + 1)) values ≡ first ++ here = ap (λ (m : ℕ). take m values) next ∙ take-add (65536 * n) 65536 values in
      let count : length (take (65536 * (n + 1)) values) ≡ length first + length here = ap length both ∙ length-append first here in
      let room : length first % 65536 ≡ 0 = omega (arith, start) in
      let long : length (pages ++ page ∷ []) ≡ n + 1 = length_push pages page ∙ ap (λ (m : ℕ). m + 1) before.count in
      record {
        pages = pages ++ page ∷ [];
        count = long;
        shortest = λ k fewer.
            below_more (λ (m : ℕ). HasShortestBlocks t frames_only (get_or (pages ++ page ∷ []) m []) (page_part values m)) n
            (λ m under.
            let inside : m < length pages = omega (arith, before.count, under) in
            subst (λ (b : List ℕ). HasShortestBlocks t frames_only b (page_part values m)) (sym (get_or-append pages (page ∷ []) [] m inside)) (before.shortest m inside))
            (subst (λ (b : List ℕ). HasShortestBlocks t frames_only b here) (sym (get_or_push pages page [] n before.count)) short)
            k (omega (arith, long, fewer));
        whole = λ others rest more holds.
            let from : HoldsPages t lanes checked (length first + length here) others rest more = rw count at holds in
            rw (both, append_assoc first here more, append_assoc bytes page rest, append_assoc pages (page ∷ []) others)
            (before.whole (page ∷ others) (page ++ rest) (here ++ more) (rest, here, more, refl, refl, room, is, from));
      }

  -- where these are all values, the end makes them whole
  pub all_pages : (bytes end : List ℕ) (n : ℕ) → length values ≤ 65536 * n → IsEnd checked (length values) end → AreSoFar bytes n
      → (pages : List (List ℕ)) × HoldsPages t lanes checked 0 pages (bytes ++ end) values × HaveShortestBlocks t frames_only pages values
  all_pages bytes end n whole is before =
      let same : take (65536 * n) values ≡ values = take_all (65536 * n) values whole in
      let last : IsEnd checked (length (take (65536 * n) values)) end = rw same is in
      (before.pages, rw (append-nil before.pages, append-nil (take (65536 * n) values), same) at (before.whole [] end [] (last, refl)), before.shortest)

-- a page more
pub most_more : (t page m : ℕ) → 0 < m → m ≤ 65536 → pages_most t (65536 * page) + page_most t m ≡ pages_most t (65536 * page + m)
most_more t page m some most =
    let pages : (65536 * page + m + 65535) / 65536 ≡ page + 1 = omega arith in
    let before : (65536 * page + 65535) / 65536 ≡ page = omega arith in
    let whole : (65536 * page + 1023) / 1024 ≡ 64 * page = omega arith in
    let blocks : (65536 * page + m + 1023) / 1024 ≡ 64 * page + (m + 1023) / 1024 = omega arith in
    rw (pages, before, whole, blocks) (omega arith)

-- more values take no fewer bytes
pub most_grows : (t m n : ℕ) → m ≤ n → pages_most t m ≤ pages_most t n
most_grows t m n fewer =
    let blocks : (m + 1023) / 1024 ≤ (n + 1023) / 1024 = omega arith in
    let pages : (m + 65535) / 65536 ≤ (n + 65535) / 65536 = omega arith in
    omega (arith, mul-le-mul_left (16 + 128 * t) blocks)

next_count : (n page part : ℕ) → 65536 * page < n → part ≡ min 65536 (n - 65536 * page) → min (65536 * (page + 1)) n ≡ 65536 * page + part
next_count n page part below is = omega arith

part_some : (n page part : ℕ) → 65536 * page < n → part ≡ min 65536 (n - 65536 * page) → (0 < part) × (part ≤ 65536)
part_some n page part below is = (omega arith, omega arith)

three : (place end a b : ℕ) → place ≤ a → end ≤ place + b → end ≤ a + b
three place end a b before next = omega arith

reach : (t page m place end : ℕ) → 0 < m → m ≤ 65536 → place ≤ pages_most t (65536 * page) → end ≤ place + page_most t m → end ≤ pages_most t (65536 * page + m)
reach t page m place end some most before next = subst (λ (n : ℕ). end ≤ n) (most_more t page m some most) (three place end _ _ before next)

taken_most : {X : Type 0} (n : ℕ) (values : List X) → length (take n values) ≤ length values
taken_most n values = omega (arith, length-take n values)

at_most_both : (a b c : ℕ) → a ≤ b → b ≤ c → a ≤ c
at_most_both a b c first second = omega arith

pub same_most : (a : ℕ) → a ≤ a
same_most a = omega arith

module _ {X : Type 0} (values : List X) (page : ℕ) (below : 65536 * page < length values) where
  part_length : length (page_part values page) ≡ min 65536 (length values - 65536 * page)
  part_length = length-take 65536 (drop (65536 * page) values) ∙ ap (min 65536) (length-drop (65536 * page) values)

  -- what is left is a whole part, where it is no more than one
  pub part_left : length (between (65536 * page) (length values) values) < 65536 → between (65536 * page) (length values) values ≡ page_part values page
  part_left few =
      sym (take_all 65536 (between (65536 * page) (length values) values) (omega arith))
      ∙ ap (take 65536) (between_to_end values (65536 * page) (length values) (omega arith))

  first_length : length (take (65536 * page) values) ≡ 65536 * page
  first_length = length-take-le (65536 * page) values (omega arith)

  next_length : length (take (65536 * (page + 1)) values) ≡ 65536 * page + length (page_part values page)
  next_length = length-take (65536 * (page + 1)) values ∙ next_count (length values) page (length (page_part values page)) below part_length

  -- how far the pages reach with this one
  pub reach_more : (t place end : ℕ) → place ≤ pages_most t (length (take (65536 * page) values)) → end ≤ place + page_most t (length (page_part values page))
      → end ≤ pages_most t (length (take (65536 * (page + 1)) values))
  reach_more t place end most next =
      let some = part_some (length values) page (length (page_part values page)) below part_length in
      subst (λ (n : ℕ). end ≤ pages_most t n) (sym next_length)
      (reach t page (length (page_part values page)) place end some.0 some.1 (subst (λ (n : ℕ). place ≤ pages_most t n) first_length most) next)

  -- which is no further than all of them reach
  pub reach_inside : (t place : ℕ) → place ≤ pages_most t (length (take (65536 * page) values))
      → place + page_most t (length (page_part values page)) ≤ pages_most t (length values)
  reach_inside t place most =
      let end = place + page_most t (length (page_part values page)) in
      let here = reach_more t place end most (same_most end) in
      let whole : length (take (65536 * (page + 1)) values) ≤ length values = taken_most (65536 * (page + 1)) values in
      at_most_both _ _ _ here (most_grows t _ _ whole)

-- the numbers of a page's part
pub map_page_part : {X : Type 0} (number : X → ℕ) (values : List X) (page : ℕ) → map number (page_part values page) ≡ page_part (map number values) page
map_page_part number values page =
    sym (take-map number 65536 (drop (65536 * page) values)) ∙ ap (take 65536) (sym (drop-map number (65536 * page) values))

-- the values of a whole page
pub whole_part : {X : Type 0} (rest : List X) → 65536 ≤ length rest → (0 < length (take 65536 rest)) × (length (take 65536 rest) ≤ 65536)
whole_part rest many = let long = length-take-le 65536 rest many in (omega arith, omega arith)

-- with the end, the pages reach no further than all of them
add_end : (a b : ℕ) → a ≤ b → a + 24 ≤ b + 24
add_end a b below = omega arith

pub end_most : {X : Type 0} (t place n : ℕ) (values : List X) → place ≤ pages_most t (length (take n values))
    → place + 24 ≤ pages_most t (length values) + 24
end_most t place n values most = add_end _ _ (at_most_both _ _ _ most (most_grows t _ _ (taken_most n values)))

-- a page of this number has values, as long as there are so many pages
pub page_below : (n page : ℕ) → page < (n + 65535) / 65536 → 65536 * page < n
page_below n page below = omega arith

-- and there are no more than all pages have
pub pages_end : (n page : ℕ) → (n + 65535) / 65536 ≤ page → n ≤ 65536 * page
pages_end n page end = omega arith

-- room for the pages, where there is room for the end too
pub room_for_pages : (end most room whole : ℕ) → end ≤ most → most + 24 ≤ room → whole ≡ room → end ≤ whole
room_for_pages end most room whole fits room_is same = omega arith

pub room_for_end : (end most room whole : ℕ) → end ≤ most → most ≤ room → whole ≡ room → end ≤ whole
room_for_end end most room whole reached fits same = omega arith

-- the bytes before a place and those behind it
pub joined : (bytes : List ℕ) (place end : ℕ) → place ≤ end → take place bytes ++ between place end bytes ≡ take end bytes
joined bytes place end before =
    let there : place + (end - place) ≡ end = omega arith in
    sym (take-add place (end - place) bytes) ∙ ap (λ (n : ℕ). take n bytes) there
