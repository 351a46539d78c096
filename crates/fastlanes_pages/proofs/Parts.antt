-- The parts of a list that its blocks have.
use Rattle.std.proofs.Common.{◌≡◌, ℕ, ◌+◌, ◌-◌, ◌*◌, ◌≤◌, ◌∙◌, ◌++◌, List, [], arith, ap, drop, inl, inr, length, map, min, sym, take}
use Rattle.std.proofs.lemmas.Bool.{cases_lt}
use Rattle.std.proofs.lemmas.List.{append-nil, drop-map, drop-take, drop_all, length-map, take-map, take_all}
use Rattle.std.proofs.lemmas.Slice.{between-put_mid, between_to_end, take-put_mid_below}
use Rattle.std.specs.List.{between}
use Rattle.fastlanes_pages.specs.Values.{block_part}
use borrow.Rule.Slice.PartMut.{put_mid}

-- the numbers of the first of some elements are the first numbers
pub numbers_begin : {X : Type 0} (number : X → ℕ) (whole part : List X) (n : ℕ) → part ≡ take n whole → length part ≡ n
    → map number part ≡ take (length (map number part)) (map number whole)
numbers_begin number whole part n is count =
    ap (map number) is ∙ sym (take-map number n whole) ∙ ap (λ m. take m (map number whole)) (sym (length-map part number ∙ count))

-- all elements begin with themselves
pub whole_begins : {X : Type 0} (number : X → ℕ) (whole output : List X) → length whole ≡ 1024 → length output ≡ 1024
    → map number (whole ++ drop 1024 output) ≡ take (length (map number (whole ++ drop 1024 output))) (map number whole)
whole_begins number whole output long room =
    let none : drop 1024 output ≡ [] = drop_all 1024 output (omega (arith, room)) in
    let same : whole ++ drop 1024 output ≡ whole = ap (λ rest. whole ++ rest) none ∙ append-nil whole in
    numbers_begin number whole (whole ++ drop 1024 output) 1024 (same ∙ sym (take_all 1024 whole (omega (arith, long)))) (ap length same ∙ long)

-- up to the end of a list there may be fewer than 1024
part_between : {X : Type 0} (xs : List X) (start end : ℕ) → end ≡ min (length xs) (start + 1024) → start ≤ length xs
    → take 1024 (drop start xs) ≡ between start end xs
part_between xs start end is within =
    let n : start + 1024 - start ≡ 1024 = omega arith in
    let whole : take 1024 (drop start xs) ≡ between start (start + 1024) xs = ap (λ m. take m (drop start xs)) (sym n) in
    elim (cases_lt (length xs) (start + 1024)) [
      | inr all ↦ let same : end ≡ start + 1024 = omega arith in whole ∙ ap (λ e. between start e xs) (sym same)
      | inl short ↦ whole ∙ between_to_end xs start (start + 1024) (omega arith) ∙ sym (between_to_end xs start end (omega arith))
    ]

module _ {X : Type 0} (number : X → ℕ) (xs ys : List X) (start end : ℕ) where
  -- what is put into one block
  pub part_put : (block : ℕ) → start ≡ 1024 * block → start ≤ length xs → end ≡ min (length xs) (start + 1024) → length ys ≡ end - start
      → length (put_mid start (end - start) xs ys) ≡ length xs
      → block_part (map number (put_mid start (end - start) xs ys)) block ≡ map number ys
  part_put block at within is count same =
      let zs = put_mid start (end - start) xs ys in
      ap (λ n. take 1024 (drop n (map number zs))) (sym at)
      ∙ ap (take 1024) (drop-map number start zs) ∙ take-map number 1024 (drop start zs)
      ∙ ap (map number) (part_between zs start end (omega (arith, same)) (omega (arith, same)) ∙ between-put_mid start (end - start) xs ys end within count)

  -- leaves those before it
  pub part_kept : (block : ℕ) → 1024 * block + 1024 ≤ start → start ≤ length xs
      → block_part (map number (put_mid start (end - start) xs ys)) block ≡ block_part (map number xs) block
  part_kept block before within =
      let zs = put_mid start (end - start) xs ys in
      let first : (us : List X) → block_part (map number us) block ≡ map number (drop (1024 * block) (take (1024 * block + 1024) us)) =
      λ us. ap (take 1024) (drop-map number (1024 * block) us) ∙ take-map number 1024 (drop (1024 * block) us)
      ∙ ap (map number) (sym (drop-take (1024 * block) 1024 us)) in
      first zs
      ∙ ap (λ us. map number (drop (1024 * block) us)) (take-put_mid_below start (end - start) xs ys (1024 * block + 1024) before within)
      ∙ sym (first xs)
