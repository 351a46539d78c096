-- The values that the bytes of a block stand for.
use Rattle.std.proofs.Common.{◌≡◌, ℕ, ◌-◌, ◌*◌, ◌/◌, ◌%◌, ◌<◌, ◌≤◌, ◌∙◌, Bool, List, ap, arith, drop, get_or, inl, inr, length, min, subst, sym, take}
use Rattle.std.proofs.Math.Nat.{div-add-mod}
use Rattle.std.proofs.lemmas.Bool.{cases_eq}
use Rattle.std.proofs.lemmas.List.{get_or-drop, get_or-take, length-drop, length-take}
use Rattle.std.proofs.lemmas.Nat.{mod_below}
use Rattle.std.specs.Prelude.{◌==◌}
use Rattle.fastlanes.specs.Delta.{undeltas}
use Rattle.fastlanes.specs.Digits.{digits}
use Rattle.fastlanes.specs.Frame.{unframed}
use Rattle.fastlanes.specs.Transposition.{untransposed}
use Rattle.fastlanes_format.specs.Format.{IsElementSize, block_bytes, blocks_of, form_of, reference_of, width_of}
use Rattle.fastlanes_pages.proofs.WordPlaces.{words_are}
use Rattle.fastlanes_pages.specs.ColumnValues.{block_values, form_values, frame_values, sums_values, words_in}
use Rattle.fastlanes_pages.specs.Values.{AreDifferences, BeginsBlock, HoldsBlock, HoldsPage, IsFrame, block_part}

module _ (t lanes : ℕ) (size : IsElementSize t) where
  -- a frame has the values that its bytes stand for
  pub frame_is : (width reference : ℕ) (bytes values : List ℕ) → IsFrame t lanes width reference bytes values → values ≡ frame_values t lanes width reference bytes
  unfolding frame_values
  frame_is width reference bytes values frame =
      frame.sums ∙ ap (λ w. unframed t reference (digits t lanes width w)) (words_are t size (lanes * width) frame.words bytes frame.packed)

  -- and so do differences
  pub sums_is : (width : ℕ) (bytes values : List ℕ) → AreDifferences t lanes width (take 128 bytes) (drop 128 bytes) values → values ≡ sums_values t lanes width bytes
  unfolding sums_values
  sums_is width bytes values are =
      are.sums ∙ ap (λ w. untransposed (undeltas t lanes are.bases (digits t lanes width w))) (words_are t size (lanes * width) are.words (drop 128 bytes) are.packed)
      ∙ ap (λ b. untransposed (undeltas t lanes b (digits t lanes width (words_in t (lanes * width) (drop 128 bytes)))))
      (words_are t size lanes are.bases (take 128 bytes) are.start)

  module _ (page : List ℕ) (block : ℕ) where
    -- a block, whichever form it has
    pub block_is : (values : List ℕ) → form_of page block ≤ 1 → HoldsBlock t lanes page block values → values ≡ block_values t lanes page block
    block_is values form holds =
        let width = width_of page block in
        let reference = reference_of page block in
        let bytes = block_bytes page block in
        elim (cases_eq (form_of page block) 0) [
          | inl is ↦ subst (λ f. values ≡ form_values t lanes (f == 1) width reference bytes) (sym is) (frame_is width reference bytes values (holds.frame is))
          | inr other ↦
              let is : form_of page block ≡ 1 = omega (arith, form, other) in
              subst (λ f. values ≡ form_values t lanes (f == 1) width reference bytes) (sym is) (sums_is width bytes values (holds.differences is))
        ]

    -- the first values of a block
    pub part_is : (part : List ℕ) → form_of page block ≤ 1 → BeginsBlock t lanes page block part → part ≡ take (length part) (block_values t lanes page block)
    part_is part form begins = begins.begins ∙ ap (take (length part)) (block_is begins.whole form begins.holds)

-- an element stands in the part of its number, where all parts are as long
pub at_part : (n : ℕ) (xs : List ℕ) (i : ℕ) → 0 < n → get_or (take n (drop (n * (i / n)) xs)) (i % n) 0 ≡ get_or xs i 0
at_part n xs i some =
    get_or-take n (drop (n * (i / n)) xs) (i % n) 0 (mod_below i n some) ∙ get_or-drop (n * (i / n)) xs (i % n) 0
    ∙ ap (λ k. get_or xs k 0) (div-add-mod i n)

-- how long a part is
pub part_length : (xs : List ℕ) (block : ℕ) → length (block_part xs block) ≡ min 1024 (length xs - 1024 * block)
part_length xs block = length-take 1024 (drop (1024 * block) xs) ∙ ap (min 1024) (length-drop (1024 * block) xs)

-- each value of a page is one of its block's
pub page_value_is : (t lanes : ℕ) (checked : Bool) (page values : List ℕ) (i : ℕ) → IsElementSize t → HoldsPage t lanes checked page values → i < length values
    → get_or (block_values t lanes page (i / 1024)) (i % 1024) 0 ≡ get_or values i 0
page_value_is t lanes checked page values i size holds within =
    let block = i / 1024 in
    let part = block_part values block in
    let inside : block < blocks_of page = omega (arith, holds.count, within) in
    let is = part_is t lanes size page block part (holds.is.heads block inside).form (holds.blocks block inside) in
    let long : i % 1024 < length part = omega (arith, part_length values block, within) in
    sym (get_or-take (length part) (block_values t lanes page block) (i % 1024) 0 long)
    ∙ ap (λ p. get_or p (i % 1024) 0) (sym is) ∙ at_part 1024 values i (omega arith)
