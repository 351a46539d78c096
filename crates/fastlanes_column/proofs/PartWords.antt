-- The words of the blocks of a column, one after another.
use Rattle.std.proofs.Common.{◌≡◌, ℕ, ◌+◌, ◌-◌, ◌*◌, ◌/◌, ◌%◌, ◌<◌, ◌≤◌, List, [], ◌∷◌, suc, drop, length, map, take, ap, sym, subst, ◌∙◌, arith, below_more, zero-add}
use Rattle.std.proofs.Math.Nat.{mul-le-mul_left, mul_comm}
use Rattle.std.proofs.lemmas.List.{drop-map, drop-take, take-map, take-take, take_all}
use Rattle.std.proofs.lemmas.List.Elements.{All-weaker}
use Rattle.std.proofs.lemmas.List.FromFn.{fill_by_all, get_or-map-range_with_len, length-map-range_with_len}
use Rattle.std.proofs.lemmas.List.Sums.{sum_by-cons, sum_by-le, sum_by-take-le, sum_by_more, sum_by_more_le}
use Rattle.std.proofs.lemmas.Nat.{mul-le}
use Rattle.std.specs.List.{All, slice_index}
use Rattle.fastlanes.specs.Digits.{IsPacked, digits}
use Rattle.fastlanes.specs.Element.{IsLayout}
use Rattle.fastlanes.specs.Frame.{NearBlockComesBack, framed, unframed}
use Rattle.fastlanes_column.specs.Column.{AreNarrowestHeads, BlocksLieAbove, NearBlocksComeBack, NearColumnComesBack, NearListComesBack, block_at, held_block, held_value, part, part_start, part_starts, words_of}

-- the words of a block follow those before it
pub part_start-more : (lanes : ℕ) (ws : List ℕ) (b : ℕ) → b < length ws → part_start lanes ws (b + 1) ≡ part_start lanes ws b + lanes * slice_index ws b
part_start-more lanes ws b inside = sum_by_more (λ w. lanes * w) ws b 0 inside

-- and lie within all words
pub part-within : (lanes : ℕ) (ws : List ℕ) (b : ℕ) → b < length ws → part_start lanes ws b + lanes * slice_index ws b ≤ words_of lanes ws
part-within lanes ws b inside = sum_by_more_le (λ w. lanes * w) ws b 0 inside

pub part_start-all : (lanes : ℕ) (ws : List ℕ) (b : ℕ) → length ws ≤ b → part_start lanes ws b ≡ words_of lanes ws
part_start-all lanes ws b all = ap (words_of lanes) (take_all b ws all)

-- a column has at most 1024 words for each block
pub words_of-le : (t lanes : ℕ) (ws : List ℕ) → IsLayout t lanes → All (λ w. w ≤ t) ws → words_of lanes ws ≤ 1024 * length ws
words_of-le t lanes ws layout fit =
    let each : words_of lanes ws ≤ length ws * 1024 = sum_by-le (λ w. lanes * w) 1024 ws (All-weaker (λ w. w ≤ t) (λ w. lanes * w ≤ 1024) (λ w le.
    let most : lanes * w ≤ lanes * t = mul-le-mul_left lanes le in
    rw (sym layout.area) (rw (mul_comm t lanes) most)) ws fit)
    in
    omega (arith, each)

-- and none more than one whose widths are at least as great
words_of-le-words_of : (lanes : ℕ) (ws vs : List ℕ) → length ws ≡ length vs → ((b : ℕ) → b < length ws → slice_index ws b ≤ slice_index vs b)
    → words_of lanes ws ≤ words_of lanes vs
words_of-le-words_of lanes [] vs same each = omega arith
words_of-le-words_of lanes (w ∷ ws) [] same each = absurd (omega arith)
words_of-le-words_of lanes (w ∷ ws) (v ∷ vs) same each =
    let first : lanes * w ≤ lanes * v = mul-le-mul_left lanes (each 0 (omega arith)) in
    let rest : words_of lanes ws ≤ words_of lanes vs = words_of-le-words_of lanes ws vs (omega arith) (λ b inside. each (suc b) (omega arith)) in
    rw (sum_by-cons (λ x. lanes * x) w ws, sum_by-cons (λ x. lanes * x) v vs) (omega arith)

-- so that of the narrowest heads is a shortest one
pub shortest_column : (lanes : ℕ) (ws rs vs ss : List ℕ) (blocks : List (List ℕ)) → length ws ≡ length blocks → length vs ≡ length blocks
    → AreNarrowestHeads ws rs blocks → BlocksLieAbove vs ss blocks → words_of lanes ws ≤ words_of lanes vs
shortest_column lanes ws rs vs ss blocks long others_long narrowest lie = words_of-le-words_of lanes ws vs (long ∙ sym others_long) (λ b inside.
    let of_block : b < length blocks = rw long at inside in
    (narrowest b of_block).narrowest (slice_index ss b) (slice_index vs b) (lie b of_block))

-- a part below a place is the same in lists that are the same there
pub part-below : (lanes : ℕ) (ws p q : List ℕ) (b c : ℕ) → c < b → b ≤ length ws
    → take (part_start lanes ws b) q ≡ take (part_start lanes ws b) p → part lanes ws q c ≡ part lanes ws p c
part-below lanes ws p q b c before inside same =
    let start = part_start lanes ws c in
    let n = lanes * slice_index ws c in
    let end : part_start lanes ws (c + 1) ≡ start + n = part_start-more lanes ws c (omega arith) in
    let within : start + n ≤ part_start lanes ws b =
    subst (λ (e : ℕ). e ≤ part_start lanes ws b) (ap (words_of lanes) (take-take (c + 1) b ws (omega arith)) ∙ end)
    (sum_by-take-le (λ w. lanes * w) (take b ws) (c + 1))
    in
    let front : (r : List ℕ) → take n (drop start r) ≡ drop start (take (start + n) (take (part_start lanes ws b) r)) =
    λ r. sym (drop-take start n r) ∙ ap (drop start) (sym (take-take (start + n) (part_start lanes ws b) r within))
    in
    front q ∙ ap (λ (r : List ℕ). drop start (take (start + n) r)) same ∙ sym (front p)

-- what holds of the parts below b, and of part b, once it is written, holds of the parts below b + 1
pub parts-more : (lanes : ℕ) (ws p q : List ℕ) (b : ℕ) (P : ℕ → List ℕ → Type 0) → b < length ws
    → take (part_start lanes ws b) q ≡ take (part_start lanes ws b) p → ((c : ℕ) → c < b → P c (part lanes ws p c)) → P b (part lanes ws q b)
    → (c : ℕ) → c < b + 1 → P c (part lanes ws q c)
parts-more lanes ws p q b P inside same before here = below_more (λ c. P c (part lanes ws q c)) b
    (λ c below. subst (P c) (sym (part-below lanes ws p q b c below (omega arith) same)) (before c below)) here

-- a value that was read from where its block's words begin
pub held_value-read : (t lanes : ℕ) (ws rs p : List ℕ) (i x w r start : ℕ) → slice_index ws (i / 1024) ≡ w → slice_index rs (i / 1024) ≡ r
    → start ≡ part_start lanes ws (i / 1024) → x ≡ slice_index (unframed t r (digits t lanes w (take (lanes * w) (drop start p)))) (i % 1024)
    → x ≡ held_value t lanes ws rs p i
held_value-read t lanes ws rs p i x w r start width reference here is = rw (width, reference, ← here) is

-- a block that was read from where its words begin
pub held_block-read : (t lanes : ℕ) (ws rs p v : List ℕ) (b w r start : ℕ) → slice_index ws b ≡ w → slice_index rs b ≡ r
    → start ≡ part_start lanes ws b → v ≡ unframed t r (digits t lanes w (take (lanes * w) (drop start p))) → v ≡ held_block t lanes ws rs p b
held_block-read t lanes ws rs p v b w r start width reference here is = rw (width, reference, ← here) is

-- the words q have block c, packed
abbrev pub IsWritten : ℕ → ℕ → List ℕ → List ℕ → List (List ℕ) → ℕ → List ℕ → Type 0
IsWritten t lanes ws rs blocks c q =
    IsPacked t lanes (slice_index ws c) (framed t (slice_index rs c) (block_at blocks c)) q
    × NearBlockComesBack t lanes (slice_index ws c) (slice_index rs c) (block_at blocks c) q

pub is_written : (t lanes : ℕ) (ws rs : List ℕ) (blocks : List (List ℕ)) (p : List ℕ) (b w r : ℕ) (v : List ℕ) (start : ℕ) → slice_index ws b ≡ w
    → slice_index rs b ≡ r → block_at blocks b ≡ v → start ≡ part_start lanes ws b → IsPacked t lanes w (framed t r v) (take (lanes * w) (drop start p))
    → NearBlockComesBack t lanes w r v (take (lanes * w) (drop start p)) → IsWritten t lanes ws rs blocks b (part lanes ws p b)
is_written t lanes ws rs blocks p b w r v start width reference block here packed back = rw (width, reference, block, ← here) (packed, back)

-- all blocks come back exactly where each of them does
pub near_column : (t lanes : ℕ) (ws rs : List ℕ) (blocks : List (List ℕ)) (p : List ℕ)
    → NearBlocksComeBack t lanes ws rs blocks p → NearColumnComesBack t lanes ws rs blocks p
near_column t lanes ws rs blocks p each = (λ same b inside. (each b inside).0 (same b inside), λ near b inside. (each b inside).1 (near b inside))

-- as one list too
pub near_list : (t lanes : ℕ) (ws rs : List ℕ) (blocks : List (List ℕ)) (p : List ℕ) → length blocks ≡ length ws
    → NearColumnComesBack t lanes ws rs blocks p → NearListComesBack t lanes ws rs blocks p
near_list t lanes ws rs blocks p long comes = (
  λ same. comes.0 (λ b inside.
      sym (get_or-map-range_with_len (held_block t lanes ws rs p) 0 (length ws) b b [] inside (zero-add b)) ∙ ap (λ (bs : List (List ℕ)). block_at bs b) same),
  λ near. sym (fill_by_all (held_block t lanes ws rs p) blocks (length ws) [] long (λ b inside. sym (comes.1 near b inside))),
)

-- a start is told from the one before
pub part_start-next : (lanes : ℕ) (ws : List ℕ) (b start n w : ℕ) → b < length ws → slice_index ws b ≡ w → start ≡ part_start lanes ws b
    → n ≡ lanes * w → start + n ≡ part_start lanes ws (b + 1)
part_start-next lanes ws b start n w inside width here words =
    ap (λ (s : ℕ). s + n) here
    ∙ ap (λ (m : ℕ). part_start lanes ws b + m) (words ∙ ap (λ (v : ℕ). lanes * v) (sym width))
    ∙ sym (part_start-more lanes ws b inside)

pub part-end-le : (lanes : ℕ) (ws : List ℕ) (b start n w : ℕ) → b < length ws → slice_index ws b ≡ w → start ≡ part_start lanes ws b
    → n ≡ lanes * w → start + n ≤ words_of lanes ws
part-end-le lanes ws b start n w inside width here words =
    rw (part_start-next lanes ws b start n w inside width here words) (rw (part_start-more lanes ws b inside) (part-within lanes ws b inside))

-- the list of the starts
pub part_starts-at : (lanes : ℕ) (ws starts : List ℕ) (b : ℕ) → b < length ws → starts ≡ part_starts lanes ws → slice_index starts b ≡ part_start lanes ws b
part_starts-at lanes ws starts b inside are =
    ap (λ (s : List ℕ). slice_index s b) are ∙ get_or-map-range_with_len (part_start lanes ws) 0 (length ws) b b 0 inside (zero-add b)

pub length-part_starts : (lanes : ℕ) (ws : List ℕ) → length (part_starts lanes ws) ≡ length ws
length-part_starts lanes ws = length-map-range_with_len (part_start lanes ws) 0 (length ws)

-- the numbers of a part of a slice
pub map-part : {X : Type 0} (number : X → ℕ) (words : List X) (start n end : ℕ) → end ≡ start + n
    → map number (take (end - start) (drop start words)) ≡ take n (drop start (map number words))
map-part number words start n end is =
    let count : end - start ≡ n = omega arith in
    sym (take-map number (end - start) (drop start words)) ∙ ap (λ (m : ℕ). take m (map number (drop start words))) count
    ∙ ap (take n) (sym (drop-map number start words))

-- what many take together, one takes
pub one_of_many : (k n size most : ℕ) → k < n → n * size < most → size < most
one_of_many k n size most some all =
    let once : 1 * size ≤ n * size = mul-le 1 size n size (omega arith) (omega arith) in
    omega arith
