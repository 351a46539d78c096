-- The minimum of a column's values, by the heads of its blocks.
use Rattle.std.proofs.Common.{◌≡◌, ℕ, ◌+◌, ◌-◌, ◌*◌, ◌/◌, ◌%◌, ◌^◌, ◌<◌, ◌≤◌, ◌∙◌, ◌⊎◌, ◌++◌, All, Bool, Contains, List, zero, suc, true, ap, arith, drop, inl, inr, length, refl, replicate, subst, sym, take}
use Rattle.std.proofs.Math.Seq.{take-append_seam}
use Rattle.std.proofs.lemmas.Bool.{cases_lt}
use Rattle.std.proofs.lemmas.List.{drop-drop, drop-take, length-drop, length-take, take-append-drop, take-take, take_all}
use Rattle.std.proofs.lemmas.List.Elements.{All-contains, All-replicate, All-take, Contains-append_cases, Contains-append_left, Contains-append_right, Contains-get_or}
use Rattle.std.specs.List.{slice_index}
use Rattle.fastlanes_column.specs.LeastWidth.{IsLeastOf}
use Rattle.fastlanes_format.proofs.PagePlaces.{page_at}
use Rattle.fastlanes_format.specs.Format.{AreColumn, count_of, form_of, page_bytes}
use Rattle.fastlanes_pages.proofs.ColumnParts.{all_more, block_there}
use Rattle.fastlanes_pages.proofs.FormBounds.{frame_head_greatest, frame_head_least, head_most}
use Rattle.fastlanes_pages.proofs.FrameWords.{greatest_lost, least_kept, least_lost}
use Rattle.fastlanes_pages.specs.Encoded.{page_part}
use Rattle.fastlanes_pages.specs.Heads.{NoneWraps, TellMinimum, column_head, frame_greatest, frame_least, head_greatest, head_least, heads_greatest, heads_least}
use Rattle.fastlanes_pages.specs.Shortest.{HasShortestBlocks, filled_block}
use Rattle.fastlanes_pages.specs.Values.{block_part}

-- what a part of a list has, the list has
has_taken : (n : ℕ) (xs : List ℕ) (x : ℕ) → Contains (take n xs) x → Contains xs x
has_taken n xs x has = subst (λ (l : List ℕ). Contains l x) (take-append-drop n xs) (Contains-append_left (take n xs) (drop n xs) x has)

has_dropped : (n : ℕ) (xs : List ℕ) (x : ℕ) → Contains (drop n xs) x → Contains xs x
has_dropped n xs x has = subst (λ (l : List ℕ). Contains l x) (take-append-drop n xs) (Contains-append_right (take n xs) (drop n xs) x has)

-- a block that is filled up has no other numbers than its page
filled_has : (page : List ℕ) (block x : ℕ) → 0 < length page → Contains (filled_block page block) x → Contains page x
filled_has page block x some has =
    let part = block_part page block in
    let last : ℕ = slice_index page (length page - 1) in
    let many = 1024 - length part in
    elim (Contains-append_cases part (replicate many last) x has) [
      | inl here ↦ has_dropped (1024 * block) page x (has_taken 1024 (drop (1024 * block) page) x here)
      | inr behind ↦
          let is : last ≡ x = sym (All-contains (λ y. y ≡ last) (replicate many last) x (All-replicate (λ y. y ≡ last) many last refl) behind) in
          subst (Contains page) is (Contains-get_or page (length page - 1) 0 (omega (arith, some)))
    ]

-- what holds of all of a block that is filled up holds of the block
all_filled : (P : ℕ → Type 0) (page : List ℕ) (block : ℕ) → All P (filled_block page block) → All P (block_part page block)
all_filled P page block all =
    let part = block_part page block in
    let fill = replicate (1024 - length part) (slice_index page (length page - 1)) in
    subst (All P) (take-append_seam part fill) (All-take P (length part) (part ++ fill) all)

-- the block of a page of a column is one of the column
part_is : (values : List ℕ) (n : ℕ) → block_part (page_part values (n / 64)) (n % 64) ≡ take 1024 (drop (1024 * n) values)
part_is values n =
    let a = 1024 * (n % 64) in
    let rest = drop (65536 * (n / 64)) values in
    let whole : 65536 ≡ a + (65536 - a) = omega arith in
    let there : 65536 * (n / 64) + a ≡ 1024 * n = omega arith in
    ap (λ m. take 1024 (drop a (take m rest))) whole ∙ ap (take 1024) (drop-take a (65536 - a) rest)
    ∙ take-take 1024 (65536 - a) (drop a rest) (omega arith) ∙ ap (take 1024) (drop-drop a (65536 * (n / 64)) values)
    ∙ ap (λ m. take 1024 (drop m values)) there

page_some : (values : List ℕ) (page : ℕ) → 65536 * page < length values → 0 < length (page_part values page)
page_some values page below = omega (arith, below, length-take 65536 (drop (65536 * page) values), length-drop (65536 * page) values)

module _ (t : ℕ) (frames_only : Bool) (bytes values : List ℕ) (only : frames_only ≡ true) (column : AreColumn t bytes) (count : count_of bytes ≡ length values)
    (shortest : (page : ℕ) → 65536 * page < length values → HasShortestBlocks t frames_only (page_bytes bytes page) (page_part values page)) where
  -- the reference of each block is an element, the least of the block's values
  module _ (n : ℕ) (below : 1024 * n < length values) where
    page_below : 65536 * (n / 64) < length values
    page_below = omega (arith, below)

    small : (column_head t bytes n).reference < 2 ^ t
    small =
        let page = page_at t bytes column (n / 64) (omega (arith, count, page_below)) in
        (page.is.heads (n % 64) (block_there t bytes column n (omega (arith, count, below)))).reference

    least : IsLeastOf (column_head t bytes n).reference (filled_block (page_part values (n / 64)) (n % 64))
    least =
        let block = shortest (n / 64) page_below (n % 64) (block_there t bytes column n (omega (arith, count, below))) in
        block.minimum (block.only only)

    -- each block is a FOR block
    form : form_of (page_bytes bytes (n / 64)) (n % 64) ≡ 0
    form = (shortest (n / 64) page_below (n % 64) (block_there t bytes column n (omega (arith, count, below)))).only only

    least_is : head_least t (column_head t bytes n) ≡ frame_least t (column_head t bytes n).width (column_head t bytes n).reference
    least_is = frame_head_least t (page_bytes bytes (n / 64)) (n % 64) form

    greatest_is : head_greatest t (column_head t bytes n) ≡ frame_greatest t (column_head t bytes n).width (column_head t bytes n).reference
    greatest_is = frame_head_greatest t (page_bytes bytes (n / 64)) (n % 64) form

    -- the lower bound is its reference, if it does not wrap
    kept : (column_head t bytes n).reference + 2 ^ (column_head t bytes n).width ≤ 2 ^ t → head_least t (column_head t bytes n) ≡ (column_head t bytes n).reference
    kept room = least_is ∙ least_kept t (column_head t bytes n).width (column_head t bytes n).reference room

    one : Contains values (column_head t bytes n).reference
    one =
        let page = page_part values (n / 64) in
        let x = (column_head t bytes n).reference in
        has_dropped (65536 * (n / 64)) values x
        (has_taken 65536 (drop (65536 * (n / 64)) values) x (filled_has page (n % 64) x (page_some values (n / 64) page_below) least.one))

    above : All (λ x. (column_head t bytes n).reference ≤ x) (take 1024 (drop (1024 * n) values))
    above = subst (All (λ x. (column_head t bytes n).reference ≤ x)) (part_is values n)
        (all_filled (λ x. (column_head t bytes n).reference ≤ x) (page_part values (n / 64)) (n % 64) least.least)

  -- so many blocks of the column
  abbrev AreThere : ℕ → Type 0
  AreThere n = (number : ℕ) → number < n → 1024 * number < length values

  -- if none wraps, the least of their references is a value, and no value of theirs is less
  least_has : (n : ℕ) → AreThere (suc n) → NoneWraps t bytes (suc n) → Contains values (heads_least t bytes (suc n))
  least_has zero there none =
      let r = (column_head t bytes 0).reference in
      let here = kept 0 (there 0 (omega arith)) (none 0 (omega arith)) in
      let is : r ≡ heads_least t bytes 1 = omega (arith, here, small 0 (there 0 (omega arith))) in
      subst (Contains values) is (one 0 (there 0 (omega arith)))
  least_has (suc n) there none =
      let r = (column_head t bytes (suc n)).reference in
      let here = kept (suc n) (there (suc n) (omega arith)) (none (suc n) (omega arith)) in
      let before = heads_least t bytes (suc n) in
      elim (cases_lt before r) [
        | inl less ↦
            let is : before ≡ heads_least t bytes (suc (suc n)) = omega (arith, here, less) in
            subst (Contains values) is (least_has n (λ k below. there k (omega (arith, below))) (λ k below. none k (omega (arith, below))))
        | inr more ↦
            let is : r ≡ heads_least t bytes (suc (suc n)) = omega (arith, here, more) in
            subst (Contains values) is (one (suc n) (there (suc n) (omega arith)))
      ]

  least_above : (n : ℕ) → AreThere n → NoneWraps t bytes n → All (λ x. heads_least t bytes n ≤ x) (take (1024 * n) values)
  least_above zero there none = λ k d below. absurd (omega (arith, below, length-take 0 values))
  least_above (suc n) there none =
      let r = (column_head t bytes n).reference in
      let here = kept n (there n (omega arith)) (none n (omega arith)) in
      let after : n + 1 ≡ suc n = omega arith in
      let m = heads_least t bytes (suc n) in
      let first = least_above n (λ k below. there k (omega (arith, below))) (λ k below. none k (omega (arith, below))) in
      let next = above n (there n (omega arith)) in
      subst (λ k. All (λ x. m ≤ x) (take (1024 * k) values)) after
      (all_more (λ x. m ≤ x) values n (λ k d below. omega (arith, first k d below)) (λ k d below. omega (arith, next k d below, here)))

  -- the bounds of heads are elements
  heads_most : (n : ℕ) → heads_greatest t bytes n ≤ 2 ^ t - 1
  heads_most zero = omega arith
  heads_most (suc n) = omega (arith, heads_most n, head_most t (column_head t bytes n))

  -- where one wraps, they are all elements
  none_or_all : (n : ℕ) → AreThere n → NoneWraps t bytes n ⊎ ((heads_least t bytes n ≡ 0) × (heads_greatest t bytes n ≡ 2 ^ t - 1))
  none_or_all zero there = inl (λ number below. absurd (omega arith))
  none_or_all (suc n) there =
      let w = (column_head t bytes n).width in
      let r = (column_head t bytes n).reference in
      let most = heads_most n in
      elim (cases_lt (2 ^ t) (r + 2 ^ w)) [
        | inl lost ↦
            let is_small = small n (there n (omega arith)) in
            let here = there n (omega arith) in
            inr (
              omega (arith, least_is n here, least_lost t w r is_small lost),
              omega (arith, greatest_is n here, greatest_lost t w r is_small lost, most, head_most t (column_head t bytes n)),
            )
        | inr room ↦ elim (none_or_all n (λ k below. there k (omega (arith, below)))) [
          | inl none ↦ inl (λ number below. elim (cases_lt number n) [
            | inl before ↦ none number before
            | inr last ↦ let is : n ≡ number = omega (arith, below, last) in
                subst (λ k. (column_head t bytes k).reference + 2 ^ (column_head t bytes k).width ≤ 2 ^ t) is room
          ])
          | inr all ↦ inr (omega (arith, all.0), omega (arith, all.1, head_most t (column_head t bytes n)))
        ]
      ]

  -- what all heads say
  pub heads_tell : (n : ℕ) → 0 < length values → n ≡ (length values + 1023) / 1024 → TellMinimum t bytes n values
  heads_tell zero some is = absurd (omega (arith, some, is))
  heads_tell (suc n) some is =
      let there : AreThere (suc n) = λ number below. omega (arith, is, below) in
      let exact : NoneWraps t bytes (suc n) → IsLeastOf (heads_least t bytes (suc n)) values = λ none. record {
        one = least_has n there none;
        least = subst (All (λ x. heads_least t bytes (suc n) ≤ x)) (take_all (1024 * suc n) values (omega (arith, is))) (least_above (suc n) there none);
      } in
      record {
        exact = exact;
        above = λ more. elim (none_or_all (suc n) there) [
          | inl none ↦ exact none
          | inr all ↦ absurd (omega (arith, all.0, more))
        ];
        below = λ less. elim (none_or_all (suc n) there) [
          | inl none ↦ exact none
          | inr all ↦ absurd (omega (arith, all.1, less))
        ];
      }
