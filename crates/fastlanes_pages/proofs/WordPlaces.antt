-- Words at their places in bytes.
use Rattle.std.proofs.Common.{◌≡◌, ℕ, ◌+◌, ◌*◌, ◌/◌, ◌%◌, ◌^◌, ◌<◌, ◌∙◌, List, [], ◌∷◌, zero, suc, ap, arith, get_or, inl, inr, length, refl, sym, take}
use Rattle.std.proofs.Math.Nat.{div-div-eq-div-mul, pow-suc}
use Rattle.std.proofs.lemmas.List.{length-append, length-take-le}
use Rattle.std.proofs.lemmas.List.Concat.{get_or-flat_map}
use Rattle.std.proofs.lemmas.List.Edits.{get_or-between}
use Rattle.std.proofs.lemmas.List.Elements.{All-get_or}
use Rattle.std.proofs.lemmas.List.FromFn.{fill_by_all, get_or-map-range_with_len}
use Rattle.std.proofs.lemmas.Nat.{pow-add}
use Rattle.std.specs.Int.{byte_at, bytes_low_first}
use Rattle.std.specs.List.{between, flat_map, slice_index}
use Rattle.fastlanes_bytes.specs.Bytes.{HasWords, bytes_of, word_bytes}
use Rattle.fastlanes_format.specs.Format.{IsElementSize, number_at}
use Rattle.fastlanes_pages.specs.ColumnValues.{words_in}

-- a byte is what is left of the higher ones
byte_is : (i n : ℕ) → byte_at i n ≡ n / 256 ^ i % 256
byte_is zero n = omega arith
byte_is (suc i) n = refl

-- k bytes have so many numbers
bytes_below : (k : ℕ) → 2 ^ (8 * k) ≡ 256 ^ k
bytes_below zero = refl
bytes_below (suc k) =
    let next : 8 * suc k ≡ 8 * k + 8 = omega arith in
    ap (λ n. 2 ^ n) next ∙ pow-add 2 (8 * k) 8 ∙ omega (arith, bytes_below k, pow-suc 256 k)

-- k bytes from byte i upward have this length
low_length : (k i x : ℕ) → length (bytes_low_first i k x) ≡ k
low_length zero i x = refl
low_length (suc k) i x = ap suc (low_length k (suc i) x)

-- the number of the lowest bytes of x is x, where it has no others
number_low : (k i x : ℕ) (bytes : List ℕ) (at : ℕ) → x / 256 ^ i < 256 ^ k
    → ((j : ℕ) → j < k → get_or bytes (at + j) 0 ≡ get_or (bytes_low_first i k x) j 0) → number_at k bytes at ≡ x / 256 ^ i
number_low zero i x bytes at small same = omega (arith, small)
number_low (suc k) i x bytes at small same =
    let here : at ≡ at + 0 = omega arith in
    let first : get_or bytes at 0 ≡ byte_at i x = ap (λ m. get_or bytes m 0) here ∙ same 0 (omega arith) in
    let high : x / 256 ^ suc i ≡ x / 256 ^ i / 256 = ap (λ m. x / m) (pow-suc 256 i) ∙ sym (div-div-eq-div-mul x (256 ^ i) 256) in
    let less : x / 256 ^ suc i < 256 ^ k = omega (arith, high, pow-suc 256 k, small) in
    let others : number_at k bytes (at + 1) ≡ x / 256 ^ suc i = number_low k (suc i) x bytes (at + 1) less (λ j below.
    let next : at + 1 + j ≡ at + suc j = omega arith in
    ap (λ m. get_or bytes m 0) next ∙ same (suc j) (omega arith)) in
    omega (arith, first, byte_is i x, high, others)

-- a word is whole bytes
size_whole : (t : ℕ) → IsElementSize t → t ≡ 8 * (t / 8)
size_whole t size = elim size [ inl is ↦ omega arith | inr more ↦ elim more [ inl is ↦ omega arith | inr most ↦ elim most [ inl is ↦ omega arith | inr is ↦ omega arith ] ] ]

module _ (t : ℕ) (size : IsElementSize t) where
  -- the word that has these bytes is their number
  number_same : (x : ℕ) (bytes : List ℕ) (at : ℕ) → x < 2 ^ t → ((j : ℕ) → j < t / 8 → get_or bytes (at + j) 0 ≡ get_or (word_bytes t x) j 0)
      → number_at (t / 8) bytes at ≡ x
  number_same x bytes at small same =
      let all : 2 ^ t ≡ 256 ^ (t / 8) = ap (λ n. 2 ^ n) (size_whole t size) ∙ bytes_below (t / 8) in
      let lowest : x / 256 ^ 0 ≡ x = omega arith in
      number_low (t / 8) 0 x bytes at (omega (arith, lowest, all, small)) same ∙ lowest

  -- and stands at its place among the words that bytes are
  pub word_in : (n place x : ℕ) (bytes : List ℕ) (start end : ℕ) → place < n → start ≡ t / 8 * place → end ≡ start + t / 8 → x < 2 ^ t
      → word_bytes t x ≡ between start end bytes → slice_index (words_in t n bytes) place ≡ x
  word_in n place x bytes start end inside begins ends small same =
      get_or-map-range_with_len (λ k. number_at (t / 8) bytes (t / 8 * k)) 0 n place place 0 inside (omega arith)
      ∙ ap (number_at (t / 8) bytes) (sym begins)
      ∙ number_same x bytes start small (λ j below. sym (get_or-between bytes start end j 0 (omega arith)) ∙ ap (λ b. get_or b j 0) (sym same))

  -- so many words have so many bytes
  bytes_length : (words : List ℕ) → length (bytes_of t words) ≡ t / 8 * length words
  bytes_length [] = omega arith
  bytes_length (x ∷ words) = simp length-append (omega (arith, low_length (t / 8) 0 x, bytes_length words))

  -- the words of bytes are those at their places
  pub words_are : (n : ℕ) (words bytes : List ℕ) → HasWords t n words bytes → words ≡ words_in t n bytes
  words_are n words bytes has = fill_by_all (λ k. number_at (t / 8) bytes (t / 8 * k)) words n 0 has.whole (λ i inside.
      let below : i < length words = omega (arith, has.whole, inside) in
      let x : ℕ = get_or words i 0 in
      let start : length (flat_map (word_bytes t) (take i words)) ≡ t / 8 * i =
      bytes_length (take i words) ∙ ap (λ m. t / 8 * m) (length-take-le i words (omega arith)) in
      sym (number_same x bytes (t / 8 * i) (All-get_or (λ z. z < 2 ^ t) words i 0 below has.below) (λ j in_word.
      ap (λ b. get_or b (t / 8 * i + j) 0) has.same
      ∙ ap (λ m. get_or (bytes_of t words) (m + j) 0) (sym start)
      ∙ get_or-flat_map (word_bytes t) words i j 0 0 below (omega (arith, low_length (t / 8) 0 x)))))
