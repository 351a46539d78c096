-- What is written from a place on, to the end.
use Rattle.std.proofs.Common.{◌≡◌, ℕ, ◌+◌, ◌-◌, ◌≤◌, ◌∙◌, ◌++◌, List, [], ap, arith, drop, length, sym, take}
use Rattle.std.proofs.Math.Seq.{drop-append_seam, take-add, take-append_seam}
use Rattle.std.proofs.lemmas.List.{append-nil, drop-drop, drop_all, length-append, length-take-le}
use Rattle.std.proofs.lemmas.List.Edits.{length-between}
use Rattle.std.proofs.lemmas.Slice.{between_is, take-put_mid_below}
use Rattle.std.specs.List.{between}
use borrow.Rule.Slice.PartMut.{put_mid}

module _ (xs ys : List ℕ) (place : ℕ) (inside : place ≤ length xs) where
  abbrev made : List ℕ
  made = put_mid place (length xs - place) xs ys

  made_is : made ≡ take place xs ++ ys
  made_is =
      let end : place + (length xs - place) ≡ length xs = omega arith in
      let none : drop (length xs - place) (drop place xs) ≡ [] =
      drop-drop (length xs - place) place xs ∙ ap (λ (n : ℕ). drop n xs) end ∙ drop_all (length xs) xs (omega arith)
      in
      ap (λ (rest : List ℕ). take place xs ++ (ys ++ rest)) none ∙ ap (λ (rest : List ℕ). take place xs ++ rest) (append-nil ys)

  tail_made : drop place made ≡ ys
  tail_made =
      ap (drop place) made_is ∙ ap (λ (n : ℕ). drop n (take place xs ++ ys)) (sym (length-take-le place xs inside)) ∙ drop-append_seam (take place xs) ys

  pub first_made : take place made ≡ take place xs
  first_made = take-put_mid_below place (length xs - place) xs ys place (omega arith) inside

  pub part_made : (n : ℕ) → between place (place + n) made ≡ take n ys
  part_made n = let count : place + n - place ≡ n = omega arith in ap (λ (m : ℕ). take m (drop place made)) count ∙ ap (take n) tail_made

  pub take_made : (n : ℕ) → take (place + n) made ≡ take place xs ++ take n ys
  take_made n =
      take-add place n made ∙ ap (λ (first : List ℕ). first ++ take n (drop place made)) first_made
      ∙ ap (λ (rest : List ℕ). take place xs ++ take n rest) tail_made

  pub head_made : (n : ℕ) → take place (take (place + n) made) ≡ take place xs
  head_made n =
      ap (take place) (take_made n) ∙ ap (λ (m : ℕ). take m (take place xs ++ take n ys)) (sym (length-take-le place xs inside))
      ∙ take-append_seam (take place xs) (take n ys)

  pub middle_made : (n : ℕ) → drop place (take (place + n) made) ≡ take n ys
  middle_made n = sym (between_is made place (place + n)) ∙ part_made n

  pub made_inside : (n : ℕ) → n ≤ length ys → place + n ≤ length made
  made_inside n most = omega (arith, ap length made_is, length-append (take place xs) ys, length-take-le place xs inside, most)

  pub drop_made : (n : ℕ) → drop n ys ≡ drop n (drop place xs) → drop (place + n) made ≡ drop (place + n) xs
  drop_made n same = sym (drop-drop n place made) ∙ ap (drop n) tail_made ∙ same ∙ drop-drop n place xs

-- what has room behind a place has it in what stands from there on
pub room_behind : (bytes : List ℕ) (place n : ℕ) → place + n ≤ length bytes → n ≤ length (between place (length bytes) bytes)
room_behind bytes place n room = omega (arith, length-between bytes place (length bytes) (omega arith))

pub before_room : (place n room : ℕ) → place + n ≤ room → place ≤ room
before_room place n room fits = omega arith

pub add_most : (place n most : ℕ) → n ≤ most → place + n ≤ place + most
add_most place n most below = omega arith
