-- Places of pages that are noted, of each page whose number a stride divides.
use Rattle.std.proofs.Common.{◌≡◌, ℕ, ◌+◌, ◌*◌, ◌<◌, ◌≤◌, ◌∙◌, List, ap, arith, get_or, inl, inr, length, slice_set, sym}
use Rattle.std.proofs.Math.Nat.{eq-or-lt_of_le, lt_of_mul-lt-mul_right}
use Rattle.std.proofs.lemmas.List.{get_or-set_other, get_or-set_same}
use Rattle.fastlanes_format.specs.Format.{page_place}

module _ (bytes starts : List ℕ) (k place stride : ℕ) (within : k < length starts)
    (noted : (j : ℕ) → j < k → get_or starts j 0 ≡ page_place bytes (j * stride)) (is : place ≡ page_place bytes (k * stride)) where
  -- one more
  pub noted_more : (j : ℕ) → j < k + 1 → get_or (slice_set starts k place) j 0 ≡ page_place bytes (j * stride)
  noted_more j below = let under : j ≤ k = omega (arith, below) in elim (eq-or-lt_of_le under) [
    | inl same ↦
        ap (λ n. get_or (slice_set starts k place) n 0) same ∙ get_or-set_same starts k place 0 within ∙ is
        ∙ ap (λ n. page_place bytes (n * stride)) (sym same)
    | inr before ↦ get_or-set_other starts k j place 0 (λ same. absurd (omega (arith, same, before))) ∙ noted j before
  ]

-- no stride is between that of the last place and the last page
pub none_between : (k j stride last : ℕ) → last < k * stride + stride → j * stride ≤ last → j < k + 1
none_between k j stride last behind before =
    let next : (k + 1) * stride ≡ k * stride + stride = omega arith in
    lt_of_mul-lt-mul_right stride (omega (arith, next, behind, before))

-- so many strides have room
pub stride_room : (k stride last : ℕ) → k * stride ≤ last → last < 256 * stride → k < 256
stride_room k stride last before room = lt_of_mul-lt-mul_right stride (omega (arith, before, room))
