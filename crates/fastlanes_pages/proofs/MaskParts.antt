-- A mask of all values, part by part.
use Rattle.std.proofs.Common.{◌≡◌, ℕ, ◌+◌, ◌-◌, ◌*◌, ◌/◌, ◌%◌, ◌<◌, ◌≤◌, ◌∙◌, ◌++◌, Bool, List, ap, arith, drop, get_or, inl, inr, length, min, sym, take}
use Rattle.std.proofs.Math.ListN.{get_or-append}
use Rattle.std.proofs.lemmas.Bool.{cases_lt}
use Rattle.std.proofs.lemmas.List.{get_or-append_right, get_or-drop, get_or-take, get_or_past, length-drop, length-take, length-take-le}
use Rattle.std.proofs.lemmas.Nat.Bits.{bit_at-zero}
use Rattle.std.specs.Int.{bit_at}
use Rattle.std.specs.Prelude.{if◌then◌else◌}
use Rattle.fastlanes.specs.Bits.{block_bit}
use Rattle.fastlanes_pages.specs.Masks.{IsMask}
use borrow.Rule.Slice.PartMut.{put_mid}

-- so many words of a mask tell of the values that they have bits for
pub record TellsSoFar (test : ℕ → Bool) (values mask : List ℕ) (words : ℕ) : Type 0 where
  pub each : (i : ℕ) → i / 64 < words → i < length values → block_bit mask i ≡ (if test (get_or values i 0) then 1 else 0)
  pub others : (i : ℕ) → i / 64 < words → length values ≤ i → block_bit mask i ≡ 0

module _ {X : Type 0} (xs ys : List X) (start end : ℕ) (d : X) (inside : start ≤ length xs) (long : length ys ≡ end - start) where
  put_before : (k : ℕ) → k < start → get_or (put_mid start (end - start) xs ys) k d ≡ get_or xs k d
  put_before k below =
      get_or-append (take start xs) (ys ++ drop (end - start) (drop start xs)) d k (omega (arith, length-take-le start xs inside, below))
      ∙ get_or-take start xs k d below

  put_here : (k : ℕ) → start ≤ k → k < end → get_or (put_mid start (end - start) xs ys) k d ≡ get_or ys (k - start) d
  put_here k from below =
      get_or-append_right (take start xs) (ys ++ drop (end - start) (drop start xs)) start k d (length-take-le start xs inside) from
      ∙ get_or-append ys (drop (end - start) (drop start xs)) d (k - start) (omega (arith, long, from, below))

module _ (test : ℕ → Bool) (values mask part : List ℕ) (n end : ℕ) (within : 16 * n ≤ length mask) (is : end ≡ min (length mask) (16 * n + 16))
    (long : length part ≡ 16) (tells : IsMask test (take 1024 (drop (1024 * n) values)) part) where
  abbrev here : List ℕ
  here = take 1024 (drop (1024 * n) values)

  abbrev made : List ℕ
  made = put_mid (16 * n) (end - 16 * n) mask (take (end - 16 * n) part)

  part_long : length (take (end - 16 * n) part) ≡ end - 16 * n
  part_long = length-take-le (end - 16 * n) part (omega (arith, long, is))

  bit_before : (i : ℕ) → i / 64 < 16 * n → block_bit made i ≡ block_bit mask i
  bit_before i below = ap (λ w. bit_at w (i % 64)) (put_before mask (take (end - 16 * n) part) (16 * n) end 0 within part_long (i / 64) below)

  bit_here : (i : ℕ) → 16 * n ≤ i / 64 → i / 64 < end → block_bit made i ≡ block_bit part (i - 1024 * n)
  bit_here i from below =
      let word : (i - 1024 * n) / 64 ≡ i / 64 - 16 * n = omega (arith, from) in
      let bit : (i - 1024 * n) % 64 ≡ i % 64 = omega (arith, from) in
      ap (λ w. bit_at w (i % 64)) (put_here mask (take (end - 16 * n) part) (16 * n) end 0 within part_long (i / 64) from below
      ∙ get_or-take (end - 16 * n) part (i / 64 - 16 * n) 0 (omega (arith, from, below)))
      ∙ ap (λ k. bit_at (get_or part k 0) (i % 64)) (sym word) ∙ ap (λ b. bit_at (get_or part ((i - 1024 * n) / 64) 0) b) (sym bit)

  value_here : (i : ℕ) → 1024 * n ≤ i → i - 1024 * n < 1024 → get_or here (i - 1024 * n) 0 ≡ get_or values i 0
  value_here i from below =
      let at : 1024 * n + (i - 1024 * n) ≡ i = omega (arith, from) in
      get_or-take 1024 (drop (1024 * n) values) (i - 1024 * n) 0 below ∙ get_or-drop (1024 * n) values (i - 1024 * n) 0 ∙ ap (λ k. get_or values k 0) at

  here_long : length here ≡ min 1024 (length values - 1024 * n)
  here_long = length-take 1024 (drop (1024 * n) values) ∙ ap (min 1024) (length-drop (1024 * n) values)

  -- the words of one block more
  pub tells_more : TellsSoFar test values mask (16 * n) → TellsSoFar test values made end
  tells_more before = record {
    each = λ i word below. elim (cases_lt (i / 64) (16 * n)) [
      | inl first ↦ bit_before i first ∙ before.each i first below
      | inr from ↦
          let start : 1024 * n ≤ i = omega (arith, from) in
          let most : i - 1024 * n < 1024 = omega (arith, word, is, from) in
          bit_here i from word ∙ tells.each (i - 1024 * n) (omega (arith, here_long, below, start, most))
          ∙ ap (λ x. if test x then 1 else 0) (value_here i start most)
    ];
    others = λ i word behind. elim (cases_lt (i / 64) (16 * n)) [
      | inl first ↦ bit_before i first ∙ before.others i first behind
      | inr from ↦ bit_here i from word ∙ tells.others (i - 1024 * n) (omega (arith, here_long, behind, from))
    ];
  }

-- where all words tell, the mask does
pub all_told : (test : ℕ → Bool) (values mask : List ℕ) → length mask ≡ (length values + 63) / 64 → TellsSoFar test values mask (length mask)
    → IsMask test values mask
all_told test values mask long tells = record {
  room = omega (arith, long);
  each = λ i below. tells.each i (omega (arith, long, below)) below;
  others = λ i behind. elim (cases_lt (i / 64) (length mask)) [
    | inl inside ↦ tells.others i inside behind
    | inr past ↦ ap (λ w. bit_at w (i % 64)) (get_or_past mask (i / 64) 0 past) ∙ bit_at-zero (i % 64)
  ];
}
