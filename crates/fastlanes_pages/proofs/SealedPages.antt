-- A page of which all blocks are written, and then its head.
use Rattle.std.proofs.Common.{◌≡◌, ℕ, ◌+◌, ◌-◌, ◌<◌, ◌≤◌, ◌∙◌, ◌++◌, Bool, List, ap, arith, drop, length, suc, sym, take}
use Rattle.std.proofs.Math.Seq.{take-append_seam}
use Rattle.std.proofs.lemmas.List.{take-take, take_all}
use Rattle.fastlanes_format.specs.Format.{IsBlockHead, block_place, blocks_of, head_of, number_at, page_checksum, values_of}
use Rattle.fastlanes_format.proofs.BlockPlaces.{heads_first, places_ordered}
use Rattle.fastlanes_format.proofs.HeadsKept.{blocks_same, head_same, place_same, values_kept}
use Rattle.fastlanes_pages.specs.Shortest.{HasShortestBlocks, filled_block}
use Rattle.fastlanes_pages.specs.Values.{BeginsBlock, HoldsPage, block_part}
use Rattle.fastlanes_pages.proofs.KeptBlocks.{begins_same, shortest_same}

-- a block ends where another one begins, or before
pub place_behind : (page : List ℕ) (block other : ℕ) → block < other → block_place page (suc block) ≤ block_place page other
place_behind page block other below =
    let there : suc block + (other - suc block) ≡ other = omega arith in
    let before = places_ordered page (suc block) (other - suc block) in
    omega (arith, before, ap (block_place page) there)

-- as many bytes as a page has are the page
pub page_made : (page rest : List ℕ) (end : ℕ) → length page ≡ end → take end (page ++ rest) ≡ page
page_made page rest end long = ap (λ (n : ℕ). take n (page ++ rest)) (sym long) ∙ take-append_seam page rest

module _ (t lanes : ℕ) (checked : Bool) (values written page : List ℕ) (end : ℕ) (inside : end ≤ length written) (long : length page ≡ end)
    (count : values_of page ≡ values_of (take end written)) (behind : drop 16 page ≡ drop 16 (take end written))
    (all : values_of written ≡ length values) (ends : end ≡ block_place written (blocks_of written)) where
  first : head_of (blocks_of written) ≤ end
  first = let before = heads_first written (blocks_of written) in omega (arith, before)

  counted : values_of written ≡ values_of page
  counted = sym (values_kept (take end written) written end (take-take end end written (omega arith)) (omega (arith, first))) ∙ sym count

  same : drop 16 (take end written) ≡ drop 16 (take end page)
  same = sym behind ∙ ap (drop 16) (sym (take_all end page (omega arith)))

  blocks : blocks_of written ≡ blocks_of page
  blocks = blocks_same written page end counted same

  -- a page of these values
  pub sealed_page : 0 < length values → length values ≤ 65536 → number_at 4 page 0 ≡ page_checksum checked page → length page ≡ 16 + number_at 4 page 8
      → number_at 4 page 12 ≡ 0 → ((block : ℕ) → block < blocks_of written → IsBlockHead t written block)
      → ((block : ℕ) → block < blocks_of written → BeginsBlock t lanes written block (block_part values block))
      → HoldsPage t lanes checked page values
  sealed_page some most check len spare heads begin = record {
    is = record {
      check = check;
      some = omega (arith, counted);
      most = omega (arith, counted);
      len = len;
      spare = spare;
      heads = λ block below. head_same written page end counted same t block (omega (arith, first, blocks)) (heads block (omega (arith, blocks)));
      whole = long ∙ ends ∙ place_same written page end counted same (blocks_of written) first ∙ ap (block_place page) blocks;
    };
    count = sym all ∙ counted;
    blocks = λ block below.
        let from = heads_first written block in
        let here : block < blocks_of written = omega (arith, blocks) in
        let to = place_behind written block (blocks_of written) here in
        begins_same t lanes written page end 16 end counted same same block (block_part values block) (omega (arith, first)) (omega (arith, from))
        (omega (arith, to, ends)) (begin block here);
  }

  -- whose blocks are as short as they were written
  pub sealed_shortest : (frames_only : Bool) → HasShortestBlocks t frames_only written values → HasShortestBlocks t frames_only page values
  sealed_shortest frames_only shortest block below =
      let from = heads_first written block in
      let here : block < blocks_of written = omega (arith, blocks) in
      let to = place_behind written block (blocks_of written) here in
      shortest_same t lanes written page end 16 end counted same same frames_only block (filled_block values block) (omega (arith, first, blocks))
      (omega (arith, from)) (omega (arith, to, ends)) (shortest block here)
