-- A column whose pages were written behind its head.
use Rattle.std.proofs.Common.{◌≡◌, ℕ, ◌+◌, ◌-◌, ◌*◌, ◌<◌, ◌≤◌, ◌∙◌, Bool, List, ap, arith, length, subst, sym, take}
use Rattle.fastlanes_format.specs.Format.{IsColumnHead, page_bytes}
use Rattle.fastlanes_pages.proofs.ColumnValues.{page_is}
use Rattle.fastlanes_pages.proofs.PutTails.{head_made, middle_made}
use Rattle.fastlanes_pages.specs.Encoded.{HaveShortestBlocks, page_part}
use Rattle.fastlanes_pages.specs.Shortest.{HasShortestBlocks}
use Rattle.fastlanes_pages.specs.Values.{HoldsColumn, HoldsPages}
use borrow.Rule.Slice.PartMut.{put_mid}

module _ (t lanes : ℕ) (checked : Bool) (head others values : List ℕ) (n : ℕ) (inside : 8 ≤ length head) (is : IsColumnHead t checked (take 8 head))
    (pages : List (List ℕ)) (holds : HoldsPages t lanes checked 0 pages (take n others) values) where
  -- the first bytes, up to the end of the pages, hold the values of the pages
  pub column_made : HoldsColumn t lanes (take (8 + n) (put_mid 8 (length head - 8) head others)) values
  column_made = record {
    checked = checked;
    head = subst (IsColumnHead t checked) (sym (head_made head others 8 inside n)) is;
    pages = pages;
    behind = subst (λ (bytes : List ℕ). HoldsPages t lanes checked 0 pages bytes values) (sym (middle_made head others 8 inside n)) holds;
  }

  -- and the blocks of its pages, by their numbers, are as short as they can be
  pub shortest_made : (frames_only : Bool) → HaveShortestBlocks t frames_only pages values → (page : ℕ) → 65536 * page < length values
      → HasShortestBlocks t frames_only (page_bytes (take (8 + n) (put_mid 8 (length head - 8) head others)) page) (page_part values page)
  unfolding column_made
  shortest_made frames_only shortest page within =
      let bytes = take (8 + n) (put_mid 8 (length head - 8) head others) in
      let at = page_is t lanes bytes values column_made page within in
      let none : page ≡ 0 + page = omega arith in
      subst (λ (b : List ℕ). HasShortestBlocks t frames_only b (page_part values page)) (sym (ap (page_bytes bytes) none ∙ at.is)) (shortest page at.below)
