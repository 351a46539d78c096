-- Blocks that keep their values when others are written behind them.
use Rattle.std.proofs.Common.{◌≡◌, ℕ, ◌+◌, ◌-◌, ◌≤◌, ◌∙◌, Bool, List, ap, arith, drop, suc, sym, take}
use Rattle.std.proofs.lemmas.List.{drop-drop, take-take}
use Rattle.std.proofs.lemmas.Slice.{between_is}
use Rattle.std.specs.List.{between}
use Rattle.fastlanes_format.specs.Format.{block_bytes, block_place, head_of, values_of}
use Rattle.fastlanes_format.proofs.HeadsKept.{form_same, place_same, reference_same, width_same}
use Rattle.fastlanes_pages.proofs.ShortestForm.{shortest_kept}
use Rattle.fastlanes_pages.specs.Shortest.{IsShortest}
use Rattle.fastlanes_pages.specs.Values.{BeginsBlock, HoldsBlock}

-- a part of what stands between two places
part_between : (page : List ℕ) (start end a b : ℕ) → start ≤ a → b ≤ end → between a b page ≡ take (b - a) (drop (a - start) (drop start (take end page)))
part_between page start end a b from to =
    let here : start + (a - start) ≡ a = omega arith in
    between_is page a b
    ∙ ap (drop a) (sym (take-take b end page to))
    ∙ sym (between_is (take end page) a b)
    ∙ ap (take (b - a)) (ap (λ (n : ℕ). drop n (take end page)) (sym here) ∙ sym (drop-drop (a - start) start (take end page)))

-- the heads stay up to one place, and the bytes from one place on up to another
module _ (t lanes : ℕ) (page other : List ℕ) (heads start end : ℕ) (count : values_of page ≡ values_of other)
    (same : drop 16 (take heads page) ≡ drop 16 (take heads other))
    (stay : drop start (take end page) ≡ drop start (take end other)) where
  bytes_same : (block : ℕ) → head_of block + 16 ≤ heads → start ≤ block_place page block → block_place page (suc block) ≤ end
      → block_bytes page block ≡ block_bytes other block
  bytes_same block inside from to =
      let a = block_place page block in
      let b = block_place page (suc block) in
      let first = place_same page other heads count same block (omega arith) in
      let last = place_same page other heads count same (suc block) (omega arith) in
      part_between page start end a b from to
      ∙ ap (λ (bytes : List ℕ). take (b - a) (drop (a - start) bytes)) stay
      ∙ sym (part_between other start end a b from to)
      ∙ ap (λ (n : ℕ). between n b other) first
      ∙ ap (λ (n : ℕ). between (block_place other block) n other) last

  pub holds_same : (block : ℕ) (values : List ℕ) → head_of block + 16 ≤ heads → start ≤ block_place page block → block_place page (suc block) ≤ end
      → HoldsBlock t lanes page block values → HoldsBlock t lanes other block values
  holds_same block values inside from to holds =
      let form = form_same page other heads count same block inside in
      let width = width_same page other heads count same block inside in
      let reference = reference_same page other heads count same block inside in
      let bytes = bytes_same block inside from to in
      record {
        frame = λ is. rw (sym bytes, sym width, sym reference) (holds.frame (form ∙ is));
        differences = λ is. rw (sym bytes, sym width) (holds.differences (form ∙ is));
      }

  pub shortest_same : (frames_only : Bool) (block : ℕ) (values : List ℕ) → head_of block + 16 ≤ heads → start ≤ block_place page block
      → block_place page (suc block) ≤ end → IsShortest t frames_only page block values → IsShortest t frames_only other block values
  shortest_same frames_only block values inside from to shortest =
      shortest_kept t frames_only page other block values (form_same page other heads count same block inside) (width_same page other heads count same block inside)
      (reference_same page other heads count same block inside) (bytes_same block inside from to) shortest

  pub begins_same : (block : ℕ) (part : List ℕ) → head_of block + 16 ≤ heads → start ≤ block_place page block → block_place page (suc block) ≤ end
      → BeginsBlock t lanes page block part → BeginsBlock t lanes other block part
  begins_same block part inside from to begins = record {
    whole = begins.whole;
    holds = holds_same block begins.whole inside from to begins.holds;
    begins = begins.begins;
  }
