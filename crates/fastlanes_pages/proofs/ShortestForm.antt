-- The shortest form of a block.
use Rattle.std.proofs.Common.{◌≡◌, ℕ, ◌+◌, ◌*◌, ◌/◌, ◌<◌, ◌≤◌, ◌∙◌, Bool, List, ap, arith, false, inl, inr, subst, sym, take}
use Rattle.std.specs.List.{slice_index}
use Rattle.std.specs.Prelude.{true}
use Rattle.fastlanes_bytes.specs.Bytes.{HasWords}
use Rattle.fastlanes_column.specs.LeastWidth.{IsLeastOf, IsLeastWidth, IsNarrowestHead, LieAbove}
use Rattle.fastlanes_format.specs.Format.{IsElementSize, block_bytes, form_of, reference_of, width_of}
use Rattle.fastlanes_pages.proofs.BlockValues.{frame_is}
use Rattle.fastlanes_pages.proofs.WordPlaces.{words_are}
use Rattle.fastlanes_pages.specs.ColumnValues.{frame_values, words_in}
use Rattle.fastlanes_pages.specs.Shortest.{IsShortest, own_bases, own_deltas}
use Rattle.fastlanes_pages.specs.Values.{HoldsBlock}

-- the lanes of a block hold all of its elements
lanes_are : (t lanes : ℕ) → IsElementSize t → t * lanes ≡ 1024 → lanes ≡ 1024 / t
lanes_are t lanes (inl is) area = let here = rw is at area in rw is (omega (arith, here))
lanes_are t lanes (inr (inl is)) area = let here = rw is at area in rw is (omega (arith, here))
lanes_are t lanes (inr (inr (inl is))) area = let here = rw is at area in rw is (omega (arith, here))
lanes_are t lanes (inr (inr (inr is))) area = let here = rw is at area in rw is (omega (arith, here))

module _ (t lanes reference width : ℕ) (page : List ℕ) (block : ℕ) (values : List ℕ) (head : IsNarrowestHead reference width values) (size : IsElementSize t)
    (area : t * lanes ≡ 1024) where
  -- a block with a reference
  module _ (least : IsLeastOf reference values) (form : form_of page block ≡ 0) (wide : width_of page block ≡ width) (same : reference_of page block ≡ reference)
      (holds : HoldsBlock t lanes page block values) where
    least_is : IsLeastOf (reference_of page block) values
    least_is = rw same least

    near_is : LieAbove (reference_of page block) (width_of page block) values
    near_is = rw (same, wide) head.holds

    padded_is : frame_values t (1024 / t) (width_of page block) (reference_of page block) (block_bytes page block) ≡ values
    padded_is = subst (λ (n : ℕ). frame_values t n (width_of page block) (reference_of page block) (block_bytes page block) ≡ values) (lanes_are t lanes size area)
        (sym (frame_is t lanes size (width_of page block) (reference_of page block) (block_bytes page block) values (holds.frame form)))

    -- where there may be no other form
    pub only_frame : IsShortest t true page block values
    only_frame = record {
      only = λ _. form;
      frame = λ other w lie. let narrow = head.narrowest other w lie in omega arith;
      differences = λ other. absurd (cc);
      tie = λ other. absurd (omega (arith, form, other));
      minimum = λ _. least_is;
      near = λ _. near_is;
      padded = λ _. padded_is;
      bases = λ other. absurd (omega (arith, form, other));
    }

    -- that is no longer than differences
    pub shortest_frame : (sums : ℕ) → IsLeastWidth sums (own_deltas t values) → width ≤ 1 + sums → IsShortest t false page block values
    shortest_frame sums own shorter = record {
      only = λ other. absurd (cc);
      frame = λ other w lie. let narrow = head.narrowest other w lie in omega arith;
      differences = λ _ w fits. let narrow = own.least w fits in omega arith;
      tie = λ other. absurd (omega (arith, form, other));
      minimum = λ _. least_is;
      near = λ _. near_is;
      padded = λ _. padded_is;
      bases = λ other. absurd (omega (arith, form, other));
    }

  -- differences that are shorter than a frame
  pub shortest_sums : (sums : ℕ) → IsLeastWidth sums (own_deltas t values) → 1 + sums < width → form_of page block ≡ 1 → width_of page block ≡ sums
      → HasWords t lanes (own_bases lanes values) (take 128 (block_bytes page block)) → IsShortest t false page block values
  shortest_sums sums own shorter form wide start =
      let before = take 128 (block_bytes page block) in
      let own_are = words_are t size lanes (own_bases lanes values) before start in
      record {
        only = λ other. absurd (cc);
        frame = λ other w lie. let narrow = head.narrowest other w lie in omega arith;
        differences = λ _ w fits. let narrow = own.least w fits in omega arith;
        tie = λ _ other w lie. let narrow = head.narrowest other w lie in omega arith;
        minimum = λ other. absurd (omega (arith, form, other));
        near = λ other. absurd (omega (arith, form, other));
        padded = λ other. absurd (omega (arith, form, other));
        bases = λ _. subst (λ (n : ℕ). (lane : ℕ) → 0 < lane → lane < n → slice_index (words_in t n before) lane ≡ slice_index (own_bases n values) lane)
            (lanes_are t lanes size area) (λ lane some below. ap (λ (ws : List ℕ). slice_index ws lane) (sym own_are));
      }

-- it stays the shortest where its head and its bytes stay
pub shortest_kept : (t : ℕ) (frames_only : Bool) (page other : List ℕ) (block : ℕ) (values : List ℕ) → form_of page block ≡ form_of other block
    → width_of page block ≡ width_of other block → reference_of page block ≡ reference_of other block → block_bytes page block ≡ block_bytes other block
    → IsShortest t frames_only page block values → IsShortest t frames_only other block values
shortest_kept t frames_only page other block values form width reference bytes shortest = record {
  only = λ is. sym form ∙ shortest.only is;
  frame = λ r w lie. let least = shortest.frame r w lie in omega (arith, form, width, least);
  differences = λ is w fits. let least = shortest.differences is w fits in omega (arith, form, width, least);
  tie = λ one r w lie. let less = shortest.tie (form ∙ one) r w lie in omega (arith, form, width, less);
  minimum = λ zero. rw (sym reference) (shortest.minimum (form ∙ zero));
  near = λ zero. rw (sym reference, sym width) (shortest.near (form ∙ zero));
  padded = λ zero.
      subst (λ (b : List ℕ). frame_values t (1024 / t) (width_of other block) (reference_of other block) b ≡ values) bytes
      (subst (λ (r : ℕ). frame_values t (1024 / t) (width_of other block) r (block_bytes page block) ≡ values) reference
      (subst (λ (w : ℕ). frame_values t (1024 / t) w (reference_of page block) (block_bytes page block) ≡ values) width (shortest.padded (form ∙ zero))));
  bases = λ one. subst (λ (b : List ℕ). (lane : ℕ) → 0 < lane → lane < 1024 / t
      → slice_index (words_in t (1024 / t) (take 128 b)) lane ≡ slice_index (own_bases (1024 / t) values) lane) bytes (shortest.bases (form ∙ one));
}
