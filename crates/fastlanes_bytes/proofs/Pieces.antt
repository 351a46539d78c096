-- Pieces of bytes one after another, one for each word.
use Rattle.std.proofs.Common.{◌≡◌, ℕ, ◌+◌, ◌-◌, ◌*◌, ◌<◌, ◌≤◌, List, [], ◌∷◌, ◌++◌, length, take, drop, map, get_or, set, sym, ap, ◌∙◌, arith}
use Rattle.std.proofs.Math.Seq.{take-add}
use Rattle.std.proofs.lemmas.List.{append-nil, map_more, map-append, take_more_set}
use Rattle.std.proofs.lemmas.List.Concat.{flat_map-append}
use Rattle.std.proofs.lemmas.List.Elements.{All-push}
use Rattle.std.proofs.lemmas.Nat.{mul-le}
use Rattle.std.proofs.lemmas.Slice.{take-put_mid}
use Rattle.std.specs.List.{All, between, flat_map}
use borrow.Rule.Slice.PartMut.{put_mid}

-- one number more is one piece more
piece-after : (piece : ℕ → List ℕ) (before : List ℕ) (x : ℕ) → flat_map piece (before ++ x ∷ []) ≡ flat_map piece before ++ piece x
piece-after piece before x = flat_map-append piece before (x ∷ []) ∙ ap (λ p. flat_map piece before ++ p) (append-nil (piece x))

-- one word more is one piece more
pieces-more : {X : Type 0} (piece : ℕ → List ℕ) (number : X → ℕ) (words : List X) (i : ℕ) (word : X) → i < length words
    → word ≡ get_or words i word
    → flat_map piece (map number (take (i + 1) words)) ≡ flat_map piece (map number (take i words)) ++ piece (number word)
pieces-more piece number words i word within is =
    let before = map number (take i words) in
    ap (flat_map piece) (map_more number words i word within ∙ ap (λ w. before ++ number w ∷ []) (sym is))
    ∙ piece-after piece before (number word)

-- a word's piece, put behind those of the words before it, which have n bytes each
pub pieces-put_mid : {X : Type 0} (piece : ℕ → List ℕ) (number : X → ℕ) (words : List X) (i n : ℕ) (word : X) (text line : List ℕ)
    (end rest : ℕ) → i < length words → word ≡ get_or words i word → length words * n ≤ length text → length line ≡ n → end ≡ i * n
    → take end text ≡ flat_map piece (map number (take i words)) → line ≡ piece (number word)
    → take (end + n) (put_mid end rest text line) ≡ flat_map piece (map number (take (i + 1) words))
pieces-put_mid piece number words i n word text line end rest within is room long count before next =
    let below = mul-le i n (length words) n (omega arith) (omega arith) in
    take-put_mid end rest text line (end + n) (omega arith) (omega arith)
    ∙ rw (before, next) (sym (pieces-more piece number words i word within is))

-- the numbers up to a word that was put in
numbers-put : {X : Type 0} (number : X → ℕ) (words : List X) (i : ℕ) (word : X) → i < length words
    → map number (take (i + 1) (set words i word)) ≡ map number (take i words) ++ number word ∷ []
numbers-put number words i word within = ap (map number) (take_more_set words i word within) ∙ map-append number (take i words) (word ∷ [])

-- one word more that was put in is one piece more
pub pieces-put : {X : Type 0} (piece : ℕ → List ℕ) (number : X → ℕ) (words : List X) (i : ℕ) (word : X) → i < length words
    → flat_map piece (map number (take (i + 1) (set words i word))) ≡ flat_map piece (map number (take i words)) ++ piece (number word)
pieces-put piece number words i word within =
    ap (flat_map piece) (numbers-put number words i word within) ∙ piece-after piece (map number (take i words)) (number word)

-- what holds of each number so far holds up to the word that was put in
pub All-put : {X : Type 0} (P : ℕ → Type 0) (number : X → ℕ) (words : List X) (i : ℕ) (word : X) → i < length words
    → All P (map number (take i words)) → P (number word) → All P (map number (take (i + 1) (set words i word)))
All-put P number words i word within before next =
    rw (numbers-put number words i word within) (All-push P (map number (take i words)) (number word) before next)

-- and so it does up to the next word
pub All-next : {X : Type 0} (P : ℕ → Type 0) (number : X → ℕ) (words : List X) (i : ℕ) (word : X) → i < length words → word ≡ get_or words i word
    → All P (map number (take i words)) → P (number word) → All P (map number (take (i + 1) words))
All-next P number words i word within is before next =
    let one : map number (take (i + 1) words) ≡ map number (take i words) ++ number word ∷ [] =
    map_more number words i word within ∙ ap (λ w. map number (take i words) ++ number w ∷ []) (sym is)
    in
    rw one (All-push P (map number (take i words)) (number word) before next)

-- the bytes up to the end of a piece
pub take-piece : (bytes : List ℕ) (start n : ℕ) → take start bytes ++ between start (start + n) bytes ≡ take (start + n) bytes
take-piece bytes start n =
    let count : start + n - start ≡ n = omega arith in
    ap (λ m. take start bytes ++ take m (drop start bytes)) count ∙ sym (take-add start n bytes)
