-- What is said of one of a list of heads.
use Rattle.std.proofs.Common.{◌≡◌, ℕ, ◌+◌, ◌*◌, ◌^◌, ◌<◌, ◌≤◌, List, length, get_or, take, ap, sym, subst, ◌∙◌, arith}
use Rattle.std.proofs.lemmas.List.{get_or-map, length-map, take-map}
use Rattle.std.proofs.lemmas.List.Elements.{All-take}
use Rattle.std.specs.List.{All, slice_index}
use Rattle.fastlanes.specs.Element.{IsLayout}
use Rattle.fastlanes_column.specs.Heads.{references, widths}
use Rattle.fastlanes_column.specs.Column.{part_start, words_of}
use Rattle.fastlanes_column.proofs.PartWords.{part-end-le, part_start-next, words_of-le}
use Rattle.fastlanes_column.specs.declared.frame.FrameHead.{FrameHead}

-- the width of a head that stands at a place
pub widths-at : {X Y : Type 0} (heads : List (FrameHead X Y)) (b : ℕ) (head : FrameHead X Y) → b < length heads → head ≡ get_or heads b head
    → slice_index (widths heads) b ≡ head.width
widths-at heads b head inside is = get_or-map (λ h. h.width) heads b head 0 inside ∙ ap (λ h. h.width) (sym is)

-- the number of its reference
pub references-at : {X Y : Type 0} (number : X → ℕ) (heads : List (FrameHead X Y)) (b : ℕ) (head : FrameHead X Y) → b < length heads → head ≡ get_or heads b head
    → slice_index (references number heads) b ≡ number head.reference
references-at number heads b head inside is = get_or-map (λ h. number h.reference) heads b head 0 inside ∙ ap (λ h. number h.reference) (sym is)

-- its width is at most t, where all are
pub width-le : {X Y : Type 0} (t : ℕ) (heads : List (FrameHead X Y)) (b : ℕ) (head : FrameHead X Y) → b < length heads → head ≡ get_or heads b head
    → All (λ w. w ≤ t) (widths heads) → head.width ≤ t
width-le t heads b head inside is fit =
    let in_widths : b < length (widths heads) = rw length-map inside in
    subst (λ (w : ℕ). w ≤ t) (widths-at heads b head inside is) (fit b 0 in_widths)

-- there are at most 1024 words for each head
pub words-most : {X Y : Type 0} (t lanes : ℕ) (heads : List (FrameHead X Y)) → IsLayout t lanes → All (λ w. w ≤ t) (widths heads)
    → words_of lanes (widths heads) ≤ 1024 * length heads
words-most t lanes heads layout fit = rw length-map at (words_of-le t lanes (widths heads) layout fit)

-- the words of its block end where those of the next one begin
pub next_start : {X Y : Type 0} (lanes : ℕ) (heads : List (FrameHead X Y)) (b : ℕ) (head : FrameHead X Y) (start n : ℕ) → b < length heads → head ≡ get_or heads b head
    → start ≡ part_start lanes (widths heads) b → n ≡ lanes * head.width → start + n ≡ part_start lanes (widths heads) (b + 1)
next_start lanes heads b head start n inside is here words =
    part_start-next lanes (widths heads) b start n head.width (rw length-map inside) (widths-at heads b head inside is) here words

-- within the column
pub end-within : {X Y : Type 0} (lanes : ℕ) (heads : List (FrameHead X Y)) (b : ℕ) (head : FrameHead X Y) (start n : ℕ) → b < length heads → head ≡ get_or heads b head
    → start ≡ part_start lanes (widths heads) b → n ≡ lanes * head.width → start + n ≤ words_of lanes (widths heads)
end-within lanes heads b head start n inside is here words =
    part-end-le lanes (widths heads) b start n head.width (rw length-map inside) (widths-at heads b head inside is) here words

-- which is not too long
pub end_below : {X Y : Type 0} (t lanes : ℕ) (heads : List (FrameHead X Y)) (b : ℕ) (head : FrameHead X Y) (start n : ℕ) → IsLayout t lanes
    → All (λ w. w ≤ t) (widths heads) → length heads ≤ 2 ^ 32 → b < length heads → head ≡ get_or heads b head
    → start ≡ part_start lanes (widths heads) b → n ≡ lanes * head.width → start + n < 2 ^ 64
end_below t lanes heads b head start n layout fit few inside is here words =
    let most : words_of lanes (widths heads) ≤ 1024 * length heads = words-most t lanes heads layout fit in
    let end : start + n ≤ words_of lanes (widths heads) = end-within lanes heads b head start n inside is here words in
    omega arith

-- the heads before a block
pub widths-take : {X Y : Type 0} (heads : List (FrameHead X Y)) (n : ℕ) → widths (take n heads) ≡ take n (widths heads)
widths-take heads n = sym (take-map (λ h. h.width) n heads)

pub few-take : {X Y : Type 0} (t : ℕ) (heads : List (FrameHead X Y)) (n : ℕ) → All (λ w. w ≤ t) (widths heads) → All (λ w. w ≤ t) (widths (take n heads))
few-take t heads n fit = subst (All (λ w. w ≤ t)) (sym (widths-take heads n)) (All-take (λ w. w ≤ t) n (widths heads) fit)
