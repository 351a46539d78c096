-- The values of a block.
use Rattle.std.proofs.Common.{◌≡◌, ℕ, ◌+◌, ◌-◌, ◌*◌, ◌<◌, ◌∙◌, ◌++◌, ◌∷◌, List, [], zero, suc, ap, arith, drop, get_or, inl, inr, length, map, min, refl, replicate, subst, sym, take}
use Rattle.std.proofs.Math.Seq.{take-append_seam}
use Rattle.std.proofs.lemmas.Bool.{cases_lt}
use Rattle.std.proofs.lemmas.List.{append-nil, drop-map, drop-replicate, get_or-map, length-map, length-take-le, map-append, take-map, take_all}
use Rattle.std.proofs.lemmas.List.Edits.{get_or-between, length-between}
use Rattle.std.proofs.lemmas.Slice.{between_to_end}
use Rattle.std.specs.List.{between, slice_index}
use Rattle.fastlanes_pages.specs.Shortest.{filled_block}
use Rattle.fastlanes_pages.specs.Values.{block_part}

numbers_are : {X : Type 0} (number : X → ℕ) (m : ℕ) (x : X) → map number (replicate m x) ≡ replicate m (number x)
numbers_are number zero x = refl
numbers_are number (suc m) x = ap (λ xs. number x ∷ xs) (numbers_are number m x)

-- what is left of a page's values from a block on is copied to the beginning of 1024, as far as there is room
module _ {X : Type 0} (number : X → ℕ) (values copied : List X) (n count : ℕ) (some : 1024 * n < length values)
    (fits : count ≡ min (length (between (1024 * n) (length values) values)) 1024)
    (is : copied ≡ take count (between (1024 * n) (length values) values)) where
  left : length (between (1024 * n) (length values) values) ≡ length values - 1024 * n
  left = length-between values (1024 * n) (length values) (omega arith)

  part : block_part (map number values) n ≡ map number copied
  part =
      let rest = between (1024 * n) (length values) values in
      let first : take 1024 rest ≡ take count rest = elim (cases_lt count 1024) [
        | inl few ↦ take_all 1024 rest (omega (arith, fits, few)) ∙ sym (take_all count rest (omega (arith, fits, few)))
        | inr whole ↦ let same : 1024 ≡ count = omega arith in ap (λ m. take m rest) same
      ] in
      ap (take 1024) (drop-map number (1024 * n) values) ∙ take-map number 1024 (drop (1024 * n) values)
      ∙ ap (λ xs. map number (take 1024 xs)) (sym (between_to_end values (1024 * n) (length values) (omega arith)))
      ∙ ap (map number) (first ∙ sym is)

  -- a block begins with them
  pub begins_with : (rest : List X) → block_part (map number values) n ≡ take (length (block_part (map number values) n)) (map number (copied ++ rest))
  begins_with rest =
      subst (λ (p : List ℕ). p ≡ take (length p) (map number (copied ++ rest))) (sym part)
      (sym (take-append_seam (map number copied) (map number rest)) ∙ ap (take (length (map number copied))) (sym (map-append number copied rest)))

  -- it is them if they are 1024
  pub begins_whole : block_part (map number values) n ≡ take (length (block_part (map number values) n)) (map number copied)
  begins_whole =
      subst (λ (xs : List X). block_part (map number values) n ≡ take (length (block_part (map number values) n)) (map number xs)) (append-nil copied) (begins_with [])

  pub filled_whole : count ≡ 1024 → map number copied ≡ filled_block (map number values) n
  filled_whole whole =
      let block = block_part (map number values) n in
      let fill : ℕ = slice_index (map number values) (length (map number values) - 1) in
      let long : length block ≡ count = ap length part ∙ length-map copied number ∙ ap length is ∙ length-take-le count (between (1024 * n) (length values) values) (omega (arith, fits)) in
      let none : 0 ≡ 1024 - length block = omega (arith, long, whole) in
      sym part ∙ sym (append-nil block) ∙ ap (λ m. block ++ replicate m fill) none

  -- and where they are fewer than 1024, their last one stands behind them
  pub filled_with : (last d : X) → last ≡ get_or (between (1024 * n) (length values) values) (count - 1) d
      → map number (copied ++ drop count (replicate 1024 last)) ≡ filled_block (map number values) n
  filled_with last d stands =
      let fill : ℕ = slice_index (map number values) (length (map number values) - 1) in
      let long : length (map number copied) ≡ count =
      length-map copied number ∙ ap length is ∙ length-take-le count (between (1024 * n) (length values) values) (omega arith) in
      let rest : replicate (1024 - count) (number last) ≡ replicate (1024 - count) fill = elim (cases_lt count 1024) [
        | inl few ↦
            let place : 1024 * n + (count - 1) ≡ length values - 1 = omega (arith, left) in
            ap (λ x. replicate (1024 - count) (number x))
            (stands ∙ get_or-between values (1024 * n) (length values) (count - 1) d (omega (arith, left)) ∙ ap (λ i. get_or values i d) place)
            ∙ ap (replicate (1024 - count)) (sym (get_or-map number values (length values - 1) d 0 (omega arith))
            ∙ ap (λ m. slice_index (map number values) (m - 1)) (sym (length-map values number)))
        | inr whole ↦
            let none : 1024 - count ≡ 0 = omega arith in
            ap (λ m. replicate m (number last)) none ∙ sym (ap (λ m. replicate m fill) none)
      ] in
      map-append number copied (drop count (replicate 1024 last))
      ∙ ap (λ xs. map number copied ++ map number xs) (drop-replicate count 1024 last)
      ∙ ap (λ xs. map number copied ++ xs) (numbers_are number (1024 - count) last ∙ rest)
      ∙ ap (λ m. map number copied ++ replicate (1024 - m) fill) (sym long)
      ∙ ap (λ (p : List ℕ). p ++ replicate (1024 - length p) fill) (sym part)
