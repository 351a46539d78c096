-- Rows of words that come one after another.
use Rattle.std.proofs.Common.{◌≡◌, ◌≢◌, ℕ, ◌+◌, ◌-◌, ◌*◌, ◌/◌, ◌%◌, ◌^◌, ◌<◌, ◌≤◌, Fits, w64, List, [], drop, length, map, set, take, ap, sym, ◌∙◌, arith, below_more, get_or-set_other, get_or-set_same, zero-add}
use Rattle.std.proofs.lemmas.List.{drop-map, get_or-drop, get_or-take, length-map, map-set, take-map}
use Rattle.std.proofs.lemmas.List.FromFn.{get_or-map-range_with_len, length-map-range_with_len}
use Rattle.std.specs.List.{slice_index, slice_index_or}
use Rattle.fastlanes.specs.Counted.{row_from}
use Rattle.fastlanes.specs.Element.{IsWordSize}
use Rattle.fastlanes.specs.Rows.{joined_bits, words_begun}
use Rattle.fastlanes.proofs.Callers.{digit_of_two_words, words_begun_within}
use Rattle.callers.specs.Streams.{AreDigits, IsLastRow, group_words}

-- the last of k + 1 rows is row k
last_row : (t k asked : ℕ) (words : List ℕ) (at : ℕ → ℕ) → asked ≡ k + 1 → IsLastRow t asked words at
    → (j : ℕ) → j < 16 → at j ≡ slice_index words (16 * k + j) % 2 ^ t
last_row t k asked words at count last j within =
    let place : 16 * (asked - 1) + j ≡ 16 * k + j = omega (arith, count) in
    last (omega (arith, count)) j within ∙ ap (λ (i : ℕ). slice_index words i % 2 ^ t) place

-- as long as a row of digits reaches into one more row of words, there is one
pub rows_left : (t w row asked n : ℕ) → row < t → words_begun t w (row + 1) ≡ asked + 1 → 16 * w ≤ n → 16 * asked + 16 ≤ n
rows_left t w row asked n in_rows more long =
    let within = words_begun_within t w (row + 1) (omega arith) (omega arith) in
    omega (arith, within, more, long)

-- where the bits of a row end is a machine number
pub shift_fits : (t w row k : ℕ) → IsWordSize t → k ≡ t → w ≤ t → Fits w64 (row * w % k + w)
shift_fits t w row k size is narrow = omega (arith, size, is, narrow)

-- joined from the rows that were asked for, they are the digits of a row
pub digits_joined : (t w row begun asked : ℕ) (words values lo hi : List ℕ) → row < t → w ≤ t
    → begun ≡ row * w / t + 1 → IsLastRow t begun words (slice_index lo)
    → (t < row * w % t + w → (asked ≡ begun + 1) × IsLastRow t asked words (slice_index hi))
    → ((j : ℕ) → j < 16 → slice_index values j ≡ joined_bits t w (row * w % t) (slice_index lo j) (slice_index hi j))
    → AreDigits t w words row values
digits_joined t w row begun asked words values lo hi in_rows narrow count first next joined j within =
    joined j within
    ∙ digit_of_two_words t 16 w j row _ _ words in_rows narrow
    (λ some. last_row t (row * w / t) begun words (slice_index lo) count first j within)
    (λ more. last_row t (row * w / t + 1) asked words (slice_index hi) ((next more).0 ∙ ap (λ k. k + 1) count) (next more).1 j within)

-- one more row of digits is written
pub digits_more : {X : Type 0} (number : X → ℕ) (t w row : ℕ) (words : List ℕ) (output : List (List X)) (values : List X) → row < length output
    → ((k : ℕ) → k < row → AreDigits t w words k (slice_index_or (map (map number) output) k [])) → AreDigits t w words row (map number values)
    → (k : ℕ) → k < row + 1 → AreDigits t w words k (slice_index_or (map (map number) (set output row values)) k [])
digits_more number t w row words output values inside before here =
    let rows = map (map number) output in
    let in_rows : row < length rows = rw length-map inside in
    let written : map (map number) (set output row values) ≡ set rows row (map number values) = map-set (map number) output row values in
    rw written (below_more _ _
    (λ k below.
    let other : k ≢ row = omega arith in
    rw (get_or-set_other rows row k (map number values) [] other) (before k below))
    (rw (get_or-set_same rows row (map number values) [] in_rows) here))

-- they have as many rows as a lane has words
pub group_rows : (lanes w lane k : ℕ) (p : List ℕ) → 16 * k + 16 ≤ length (group_words lanes w lane p) → k < w
group_rows lanes w lane k p more =
    let rows : 16 * k + 16 ≤ 16 * w = rw length-map-range_with_len at more in
    omega (arith, rows)

-- a word of a row of these
pub group_word : {X : Type 0} (number : X → ℕ) (lanes w lane k : ℕ) (xs row : List X) → k < w → row ≡ row_from 16 (lanes * k + lane) xs
    → (j : ℕ) → j < 16 → slice_index (map number row) j ≡ slice_index (group_words lanes w lane (map number xs)) (16 * k + j)
group_word number lanes w lane k xs row inside is j within =
    let p = map number xs in
    let word = λ (i : ℕ). slice_index p (lanes * (i / 16) + (lane + i % 16)) in
    let at = lanes * k + lane in
    let high : (16 * k + j) / 16 ≡ k = omega arith in
    let low : (16 * k + j) % 16 ≡ j = omega arith in
    let apart : at + j ≡ lanes * k + (lane + j) = omega arith in
    ap (λ l. slice_index (map number l) j) is
    ∙ ap (λ l. slice_index l j) (sym (take-map number 16 (drop at xs)) ∙ ap (take 16) (sym (drop-map number at xs)))
    ∙ get_or-take 16 (drop at p) j 0 within ∙ get_or-drop at p j 0
    ∙ ap (slice_index p) apart
    ∙ ap (λ (i : ℕ). slice_index p (lanes * i + (lane + j))) (sym high) ∙ ap (λ (i : ℕ). slice_index p (lanes * ((16 * k + j) / 16) + (lane + i))) (sym low)
    ∙ sym (get_or-map-range_with_len word 0 (16 * w) (16 * k + j) (16 * k + j) 0 (omega arith) (zero-add (16 * k + j)))
