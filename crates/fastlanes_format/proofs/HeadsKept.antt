-- Heads of blocks that stay where the bytes of a page stay from the first head on, up to a place.
use Rattle.std.proofs.Common.{◌≡◌, ℕ, ◌+◌, ◌/◌, ◌^◌, ◌<◌, ◌≤◌, ◌∙◌, List, ap, arith, drop, get_or, subst, suc, sym, take, zero}
use Rattle.std.proofs.lemmas.List.{get_or-take}
use Rattle.fastlanes_format.specs.Format.{IsBlockHead, block_place, blocks_of, form_of, head_of, number_at, reference_of, values_of, width_of}
use Rattle.fastlanes_format.proofs.NumberPlaces.{number_at-same}
use Rattle.fastlanes_format.proofs.NumbersKept.{byte_behind, number_before}

module _ (page other : List ℕ) (end : ℕ) (count : values_of page ≡ values_of other) (same : drop 16 (take end page) ≡ drop 16 (take end other)) where
  byte_same : (at : ℕ) → 16 ≤ at → at < end → get_or page at 0 ≡ get_or other at 0
  byte_same at behind before =
      sym (get_or-take end page at 0 before) ∙ byte_behind (take end page) (take end other) 16 same at behind ∙ get_or-take end other at 0 before

  number_same : (n at : ℕ) → 16 ≤ at → at + n ≤ end → number_at n page at ≡ number_at n other at
  number_same n at behind inside = number_at-same n page other at at (λ k below. byte_same (at + k) (omega arith) (omega arith))

  pub blocks_same : blocks_of page ≡ blocks_of other
  blocks_same = ap (λ (values : ℕ). (values + 1023) / 1024) count

  pub form_same : (block : ℕ) → head_of block + 16 ≤ end → form_of page block ≡ form_of other block
  form_same block inside = byte_same (head_of block) (omega arith) (omega arith)

  pub width_same : (block : ℕ) → head_of block + 16 ≤ end → width_of page block ≡ width_of other block
  width_same block inside = byte_same (head_of block + 1) (omega arith) (omega arith)

  pub reference_same : (block : ℕ) → head_of block + 16 ≤ end → reference_of page block ≡ reference_of other block
  reference_same block inside = number_same 8 (head_of block + 8) (omega arith) (omega arith)

  -- a block begins where it began when the heads of those before it stay
  pub place_same : (block : ℕ) → head_of block ≤ end → block_place page block ≡ block_place other block
  place_same zero inside = ap head_of blocks_same
  place_same (suc block) inside =
      let before = place_same block (omega arith) in
      let form = form_same block (omega arith) in
      let width = width_same block (omega arith) in
      omega (arith, before, form, width)

  -- and its head is one when it stays with them
  pub head_same : (bits block : ℕ) → head_of block + 16 ≤ end → IsBlockHead bits page block → IsBlockHead bits other block
  head_same bits block inside head = record {
    form = subst (λ (n : ℕ). n ≤ 1) (form_same block inside) head.form;
    width = subst (λ (n : ℕ). n ≤ bits) (width_same block inside) head.width;
    spare = sym (number_same 2 (head_of block + 2) (omega arith) (omega arith)) ∙ head.spare;
    place = sym (number_same 4 (head_of block + 4) (omega arith) (omega arith)) ∙ head.place ∙ place_same block (omega arith);
    reference = subst (λ (n : ℕ). n < 2 ^ bits) (reference_same block inside) head.reference;
    no_reference = λ differences. sym (reference_same block inside) ∙ head.no_reference (form_same block inside ∙ differences);
  }

module _ (page other : List ℕ) (end : ℕ) (same : take end page ≡ take end other) where
  pub values_kept : 8 ≤ end → values_of page ≡ values_of other
  values_kept inside = number_before page other end same 4 4 inside

  pub heads_kept : drop 16 (take end page) ≡ drop 16 (take end other)
  heads_kept = ap (drop 16) same

  pub form_kept : (block : ℕ) → head_of block + 16 ≤ end → form_of page block ≡ form_of other block
  form_kept block inside = form_same page other end (values_kept (omega arith)) heads_kept block inside

  pub width_kept : (block : ℕ) → head_of block + 16 ≤ end → width_of page block ≡ width_of other block
  width_kept block inside = width_same page other end (values_kept (omega arith)) heads_kept block inside

  pub reference_kept : (block : ℕ) → head_of block + 16 ≤ end → reference_of page block ≡ reference_of other block
  reference_kept block inside = reference_same page other end (values_kept (omega arith)) heads_kept block inside

  pub place_kept : (block : ℕ) → head_of block ≤ end → block_place page block ≡ block_place other block
  place_kept block inside = place_same page other end (values_kept (omega arith)) heads_kept block inside

  pub head_kept : (bits block : ℕ) → head_of block + 16 ≤ end → IsBlockHead bits page block → IsBlockHead bits other block
  head_kept bits block inside head = head_same page other end (values_kept (omega arith)) heads_kept bits block inside head
