-- The bounds of the values of a block, whichever form it has.
use Rattle.std.proofs.Common.{◌≡◌, ℕ, ◌-◌, ◌/◌, ◌^◌, ◌≤◌, All, Bool, List, true, false, ap, arith, subst, sym, take}
use Rattle.std.specs.Prelude.{◌==◌, if◌then◌else◌}
use Rattle.fastlanes_base.specs.Element.{IsLayout}
use Rattle.fastlanes_format.specs.Format.{block_bytes, form_of, reference_of, width_of}
use Rattle.fastlanes_pages.proofs.FrameWords.{greatest_bound, greatest_most, least_bound}
use Rattle.fastlanes_pages.proofs.SumBounds.{greatest_of_sums, least_of_sums}
use Rattle.fastlanes_pages.specs.ColumnValues.{form_values, sums_values, words_in}
use Rattle.fastlanes_pages.specs.Heads.{BlockHead, form_bases, form_head, frame_greatest, frame_least, head_greatest, head_least, page_head, sums_greatest, sums_least}

module _ (t lanes : ℕ) (layout : IsLayout t lanes) where
  lanes_are : lanes ≡ 1024 / t
  lanes_are = grind (arith, layout.size, layout.area)

  -- the bases of a delta block are a word for each lane
  pub bases_are : (bytes : List ℕ) → words_in t lanes (take 128 bytes) ≡ form_bases t true bytes
  unfolding form_bases
  bases_are bytes = ap (λ n. words_in t n (take 128 bytes)) lanes_are

  -- all values lie between the bounds
  module _ (w r : ℕ) (bytes : List ℕ) where
    least_of_form : (differences : Bool) → All (λ x. head_least t (form_head t differences w r bytes) ≤ x) (form_values t lanes differences w r bytes)
    least_of_form true = subst (λ (b : List ℕ). All (λ x. sums_least t w b ≤ x) (sums_values t lanes w bytes)) (bases_are bytes) (least_of_sums t lanes w bytes layout)
    least_of_form false = least_bound t lanes w r bytes

    greatest_of_form : (differences : Bool) → All (λ x. x ≤ head_greatest t (form_head t differences w r bytes)) (form_values t lanes differences w r bytes)
    greatest_of_form true = subst (λ (b : List ℕ). All (λ x. x ≤ sums_greatest t w b) (sums_values t lanes w bytes)) (bases_are bytes) (greatest_of_sums t lanes w bytes layout)
    greatest_of_form false = greatest_bound t lanes w r bytes

    pub lie_between : (differences : Bool) (least greatest : ℕ) → least ≡ head_least t (form_head t differences w r bytes)
        → greatest ≡ head_greatest t (form_head t differences w r bytes)
        → All (λ x. least ≤ x) (form_values t lanes differences w r bytes) × All (λ x. x ≤ greatest) (form_values t lanes differences w r bytes)
    lie_between differences least greatest is_least is_greatest =
        let values = form_values t lanes differences w r bytes in (
          subst (λ n. All (λ x. n ≤ x) values) (sym is_least) (least_of_form differences),
          subst (λ n. All (λ x. x ≤ n) values) (sym is_greatest) (greatest_of_form differences),
        )

-- the upper bound is an element
form_most : (t w r : ℕ) (bases : List ℕ) (differences : Bool) → (if differences then sums_greatest t w bases else frame_greatest t w r) ≤ 2 ^ t - 1
unfolding sums_greatest
form_most t w r bases true = omega arith
form_most t w r bases false = greatest_most t w r

pub head_most : (t : ℕ) (head : BlockHead) → head_greatest t head ≤ 2 ^ t - 1
head_most t head = form_most t head.width head.reference head.bases head.differences

-- the bounds of a FOR block of a page
module _ (t : ℕ) (page : List ℕ) (block : ℕ) (is : form_of page block ≡ 0) where
  pub frame_head_least : head_least t (page_head t page block) ≡ frame_least t (width_of page block) (reference_of page block)
  frame_head_least = ap (λ (f : ℕ). head_least t (form_head t (f == 1) (width_of page block) (reference_of page block) (block_bytes page block))) is

  pub frame_head_greatest : head_greatest t (page_head t page block) ≡ frame_greatest t (width_of page block) (reference_of page block)
  frame_head_greatest = ap (λ (f : ℕ). head_greatest t (form_head t (f == 1) (width_of page block) (reference_of page block) (block_bytes page block))) is
