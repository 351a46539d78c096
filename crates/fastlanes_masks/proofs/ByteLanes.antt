-- The bytes of words in a vector.
use Rattle.std.proofs.Common.{◌≡◌, ℕ, zero, suc, ◌+◌, ◌-◌, ◌*◌, ◌/◌, ◌%◌, ◌^◌, ◌<◌, ◌≤◌, lit<, lit≤, List, [], ◌∷◌, ◌++◌, true, nat_eq, length, drop, map, slice_index, take, zero-add, below_more, below_none, inl, inr, refl, ap, sym, ◌∙◌, subst, arith}
use Rattle.std.proofs.Math.Nat.{zero-div}
use Rattle.std.proofs.lemmas.Bool.{agree_below_at, cases_lt, eqb-true}
use Rattle.std.proofs.lemmas.Grind.{same_number_lists}
use Rattle.std.proofs.lemmas.List.{get_or-drop, get_or-map, get_or-take, get_or_append_left, get_or-append_right, length-append}
use Rattle.std.proofs.lemmas.Nat.{div-add-mod', div-mul-add, div_below, mod-mul-add, mod_below, shr-shr}
use Rattle.std.proofs.lemmas.Simd.{Each1-chunk, Each1-get_or, get_or-chunk, get_or_narrower, get_or_wider}
use Rattle.std.specs.Simd.Lanes.{Each1, chunk, digits_l, number_l}
use Rattle.fastlanes_masks.specs.Bits.{IsBitBlock, block_byte}
use Rattle.fastlanes_masks.specs.Mask.{lane_byte}
use Rattle.fastlanes_masks.proofs.BitMoves.{each_of_sixteen}

powers_of_256 : (i : ℕ) → i < 8 → (2 ^ 8) ^ i ≡ 2 ^ (8 * i)
powers_of_256 i h = eqb-true _ _ (agree_below_at (λ k. nat_eq ((2 ^ 8) ^ k) (2 ^ (8 * k))) (λ _. true) 8 i refl h)

-- the bytes of words of t bits in a vector
pub byte_of_lanes : (t bytes : ℕ) (words : List ℕ) (n : ℕ) → 2 ^ t ≡ (2 ^ 8) ^ (t / 8) → 0 < t / 8 → t / 8 ≤ 8 → Each1 (λ x. x < 2 ^ t) words → n < bytes
    → slice_index (digits_l (2 ^ 8) bytes (number_l (2 ^ t) words)) n ≡ lane_byte t words n
byte_of_lanes t bytes words n power some few small within =
    let k : ℕ = t / 8 in
    let whole : k * (n / k) + n % k ≡ n = omega (arith, div-add-mod' n k) in
    let in_word : n % k < k = mod_below n k some in
    ap (λ i. slice_index (digits_l (2 ^ 8) bytes (number_l (2 ^ t) words)) i) (sym whole)
    ∙ get_or_narrower (2 ^ t) k (2 ^ 8) bytes words (n / k) (n % k) power small in_word (omega (arith, whole))
    ∙ ap (λ p. slice_index words (n / k) / p % 2 ^ 8) (powers_of_256 (n % k) (omega arith))

pub byte_of_words : (words : List ℕ) (n : ℕ) → Each1 (λ x. x < 2 ^ 64) words → n < 64
    → slice_index (digits_l (2 ^ 8) 64 (number_l (2 ^ 64) words)) n ≡ block_byte words n
byte_of_words words n = byte_of_lanes 64 64 words n refl (lit< tt) (lit≤ tt)

-- a byte is a word of 8 bits
pub byte_itself : (words : List ℕ) (n : ℕ) → Each1 (λ x. x < 2 ^ 8) words → n < length words → slice_index words n ≡ lane_byte 8 words n
byte_itself words n small within =
    let below : slice_index words n < 2 ^ 8 = Each1-get_or (λ x. x < 2 ^ 8) words n 0 within small in
    let at : n / 1 ≡ n = omega arith in
    let first : n % 1 ≡ 0 = omega arith in
    rw (at, first) (omega (arith, below))

byte_of_number : (bytes : List ℕ) (i : ℕ) → Each1 (λ x. x < 2 ^ 8) bytes → number_l (2 ^ 8) bytes / 2 ^ (8 * i) % 2 ^ 8 ≡ slice_index bytes i
byte_of_number [] i small = ap (λ n. n % 2 ^ 8) (zero-div (2 ^ (8 * i)))
byte_of_number (x ∷ xs) zero small = let first = small.0 in omega arith
byte_of_number (x ∷ xs) (suc i) small =
    let first = small.0 in
    let up : 8 * suc i ≡ 8 + 8 * i = omega arith in
    let rest : (x + 2 ^ 8 * number_l (2 ^ 8) xs) / 2 ^ 8 ≡ number_l (2 ^ 8) xs = omega arith in
    ap (λ k. (x + 2 ^ 8 * number_l (2 ^ 8) xs) / 2 ^ k % 2 ^ 8) up
    ∙ ap (λ n. n % 2 ^ 8) (sym (shr-shr (x + 2 ^ 8 * number_l (2 ^ 8) xs) 8 (8 * i)))
    ∙ ap (λ n. n / 2 ^ (8 * i) % 2 ^ 8) rest ∙ byte_of_number xs i small.1

pub words_of_bytes : (words : ℕ) (bytes : List ℕ) (n : ℕ) → Each1 (λ x. x < 2 ^ 8) bytes → n < 8 * words
    → block_byte (digits_l (2 ^ 64) words (number_l (2 ^ 8) bytes)) n ≡ slice_index bytes n
words_of_bytes words bytes n small within =
    let eight = chunk (8 * (n / 8)) 8 bytes in
    let whole : 8 * (n / 8) + n % 8 ≡ n = omega arith in
    ap (λ w. w / 2 ^ (8 * (n % 8)) % 2 ^ 8) (get_or_wider (2 ^ 8) 8 (2 ^ 64) words bytes (n / 8) refl small (omega arith))
    ∙ byte_of_number eight (n % 8) (Each1-chunk (λ x. x < 2 ^ 8) (8 * (n / 8)) 8 bytes small)
    ∙ get_or-chunk (8 * (n / 8)) 8 bytes (n % 8) 0 (omega arith) ∙ ap (λ k. slice_index bytes k) whole

-- the words from k on, as code writes them out
abbrev eight_from : List ℕ → ℕ → List ℕ
eight_from xs k =
    slice_index xs k ∷ slice_index xs (k + 1) ∷ slice_index xs (k + 2) ∷ slice_index xs (k + 3)
    ∷ slice_index xs (k + 4) ∷ slice_index xs (k + 5) ∷ slice_index xs (k + 6) ∷ slice_index xs (k + 7) ∷ []

eight : (xs : List ℕ) → length xs ≡ 8 → eight_from xs 0 ≡ xs
eight xs long =
    same_number_lists (eight_from xs 0) xs (sym long)
    (below_more _ 7 (below_more _ 6 (below_more _ 5 (below_more _ 4 (below_more _ 3 (below_more _ 2 (below_more _ 1 (below_more _ 0 (below_none _) refl) refl) refl) refl) refl) refl) refl) refl)

sixteen : (xs : List ℕ) → length xs ≡ 16 → eight_from xs 0 ++ eight_from xs 8 ≡ xs
sixteen xs long =
    same_number_lists (eight_from xs 0 ++ eight_from xs 8) xs (sym long)
    (each_of_sixteen _ refl refl refl refl refl refl refl refl refl refl refl refl refl refl refl refl)

pub both_halves : (xs ys : List ℕ) → length xs ≡ 8 → length ys ≡ 8 → eight_from xs 0 ++ eight_from ys 0 ≡ xs ++ ys
both_halves xs ys xs_long ys_long = λ i. eight xs xs_long i ++ eight ys ys_long i

pub block_of_halves : (xs ys : List ℕ) → length xs ≡ 8 → length ys ≡ 8 → Each1 (λ x. x < 2 ^ 64) xs → Each1 (λ x. x < 2 ^ 64) ys
    → IsBitBlock (xs ++ ys)
block_of_halves xs ys xs_long ys_long xs_small ys_small = record {
  long = omega (arith, length-append xs ys, xs_long, ys_long);
  small = λ k within. elim (cases_lt k 8) [
    | inl below ↦
        subst (λ n. n < 2 ^ 64) (sym (get_or_append_left xs ys 0 k (omega (arith, xs_long))))
        (Each1-get_or (λ x. x < 2 ^ 64) xs k 0 (omega (arith, xs_long)) xs_small)
    | inr above ↦
        subst (λ n. n < 2 ^ 64) (sym (get_or-append_right xs ys 8 k 0 xs_long above))
        (Each1-get_or (λ x. x < 2 ^ 64) ys (k - 8) 0 (omega (arith, ys_long)) ys_small)
  ];
}

-- the bytes of a block's halves
pub bytes_of_halves : (xs ys low high : List ℕ) (n : ℕ) → length xs ≡ 8 → length low ≡ 64
    → ((n : ℕ) → n < 64 → slice_index low n ≡ block_byte xs n) → ((n : ℕ) → n < 64 → slice_index high n ≡ block_byte ys n)
    → n < 128 → slice_index (low ++ high) n ≡ block_byte (xs ++ ys) n
bytes_of_halves xs ys low high n long low_long first second within = elim (cases_lt n 64) [
  | inl below ↦
      get_or_append_left low high 0 n (omega (arith, low_long)) ∙ first n below
      ∙ sym (ap (λ w. w / 2 ^ (8 * (n % 8)) % 2 ^ 8) (get_or_append_left xs ys 0 (n / 8) (omega (arith, long))))
  | inr above ↦
      let word : (n - 64) / 8 ≡ n / 8 - 8 = omega arith in
      let byte : (n - 64) % 8 ≡ n % 8 = omega arith in
      get_or-append_right low high 64 n 0 low_long above ∙ second (n - 64) (omega arith)
      ∙ ap (λ b. slice_index ys ((n - 64) / 8) / 2 ^ (8 * b) % 2 ^ 8) byte
      ∙ ap (λ k. slice_index ys k / 2 ^ (8 * (n % 8)) % 2 ^ 8) word
      ∙ sym (ap (λ w. w / 2 ^ (8 * (n % 8)) % 2 ^ 8) (get_or-append_right xs ys 8 (n / 8) 0 long (omega arith)))
]

pub bytes_of_sixteen : (words low high : List ℕ) (n : ℕ) → length words ≡ 16 → length low ≡ 64
    → ((n : ℕ) → n < 64 → slice_index low n ≡ block_byte (eight_from words 0) n)
    → ((n : ℕ) → n < 64 → slice_index high n ≡ block_byte (eight_from words 8) n)
    → n < 128 → slice_index (low ++ high) n ≡ block_byte words n
bytes_of_sixteen words low high n long low_long first second within =
    bytes_of_halves (eight_from words 0) (eight_from words 8) low high n refl low_long first second within
    ∙ ap (λ xs. block_byte xs n) (sixteen words long)

-- the first h words of a vector that was read
read_at : (h j : ℕ) (xs : List ℕ) → j < h → slice_index (chunk 0 h (take h xs)) j ≡ slice_index xs j
read_at h j xs within = get_or-chunk 0 h (take h xs) j 0 within ∙ ap (slice_index (take h xs)) (zero-add j) ∙ get_or-take h xs j 0 within

-- the bytes of the words of all lanes, from those of two vectors of h words each
pub lanes_of_halves : (t h : ℕ) (number : ℕ → ℕ) (words low high : List ℕ) (n : ℕ) → h * (t / 8) ≡ 64 → 0 < t / 8 → length words ≡ h + h
    → ((x : ℕ) → number x ≡ x) → length low ≡ 64
    → ((k : ℕ) → k < 64 → slice_index low k ≡ lane_byte t (chunk 0 h (take h words)) k)
    → ((k : ℕ) → k < 64 → slice_index high k ≡ lane_byte t (chunk 0 h (take h (drop h words))) k)
    → n < 128 → slice_index (low ++ high) n ≡ lane_byte t (map number words) n
lanes_of_halves t h number words low high n whole some long same low_long firsts seconds within =
    let k : ℕ = t / 8 in
    let numbers : (j : ℕ) → j < h + h → slice_index words j ≡ slice_index (map number words) j = λ j b.
    sym (get_or-map number words j 0 0 (omega (arith, long)) ∙ same _) in
    elim (cases_lt n 64) [
      | inl below ↦
          let in_half : n / k < h = div_below n k h some (omega (arith, whole)) in
          get_or_append_left low high 0 n (omega (arith, low_long)) ∙ firsts n below
          ∙ ap (λ x. x / 2 ^ (8 * (n % k)) % 2 ^ 8) (read_at h (n / k) words in_half ∙ numbers (n / k) (omega arith))
      | inr above ↦
          let m : ℕ = n - 64 in
          let in_half : m / k < h = div_below m k h some (omega (arith, whole)) in
          let in_word : m % k < k = mod_below m k some in
          let parts : n ≡ (h + m / k) * k + m % k = omega (arith, whole, div-add-mod' m k) in
          let at : h + m / k ≡ n / k = sym (ap (λ x. x / k) parts ∙ div-mul-add (h + m / k) k (m % k) in_word) in
          let byte : m % k ≡ n % k = sym (ap (λ x. x % k) parts ∙ mod-mul-add (h + m / k) k (m % k) in_word) in
          get_or-append_right low high 64 n 0 low_long above ∙ seconds m (omega arith)
          ∙ ap (λ x. x / 2 ^ (8 * (m % k)) % 2 ^ 8)
          (read_at h (m / k) (drop h words) in_half ∙ get_or-drop h words (m / k) 0 ∙ numbers (h + m / k) (omega arith) ∙ ap (slice_index (map number words)) at)
          ∙ ap (λ b. slice_index (map number words) (n / k) / 2 ^ (8 * b) % 2 ^ 8) byte
    ]
