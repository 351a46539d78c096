-- A digit from the words that its first and its last bit are in.
use Rattle.std.proofs.Common.{◌≡◌, ◌∷◌, [], Bool, true, ◌&&◌, nat_eq, ℕ, ◌+◌, ◌-◌, ◌*◌, ◌/◌, ◌%◌, ◌^◌, ◌<◌, ◌≤◌, ◌≢◌, List, length, map, set, refl, ap, sym, ◌∙◌, arith, inl, inr, below_more, get_or-set_other, get_or-set_same}
use Rattle.std.proofs.Math.Nat.{mod-one}
use Rattle.std.proofs.lemmas.Bool.{agree_below_at, and_parts, cases_lt, eqb-true}
use Rattle.std.proofs.lemmas.List.{ext_get_or, get_or-map, length-map, map-set}
use Rattle.std.proofs.lemmas.Nat.{div-add-mod', div-mul-add, div_below, mod_below}
use Rattle.std.specs.List.{slice_index}
use Rattle.fastlanes_base.specs.Digits.{digit, row_digit}
use Rattle.fastlanes_base.specs.Element.{IsLayout, IsWordSize}
use Rattle.fastlanes_base.specs.Order.{lane_at, row_at}
use Rattle.fastlanes_rows.proofs.RowDigits.{first_below, high_drops, next_below, mod_mod_pow, read_one, read_pair}
use Rattle.fastlanes_base.proofs.Places.{some_lanes}

-- a bit of a lane of w words is in one of these words
pub word_below : (w t bit : ℕ) → 0 < t → bit < w * t → bit / t < w
word_below w t bit some h = div_below bit t w some h

pub last_in_next : (t w row : ℕ) → row * w % t < t → w ≤ t → t < row * w % t + w → (row * w + w - 1) / t ≡ row * w / t + 1
last_in_next t w row low narrow more =
    let e : row * w + w - 1 ≡ (row * w / t + 1) * t + (row * w % t + w - 1 - t) = omega (arith, div-add-mod' (row * w) t) in
    rw e (div-mul-add (row * w / t + 1) t (row * w % t + w - 1 - t) (omega arith))

-- the lowest bits, after a cut to a word of 64
pub low_of_64 : (x w : ℕ) → w ≤ 64 → x % 18446744073709551616 % 2 ^ w ≡ x % 2 ^ w
low_of_64 x w narrow = mod_mod_pow x 64 w narrow

-- the digit of a row whose first bit is in the word x and whose last is in y
pub digit_of_words : (t lanes w lane row s : ℕ) (p : List ℕ) (x y z : ℕ) → IsWordSize t → row < t → 0 < w → w ≤ t → s ≡ row * w % t
    → slice_index p (lanes * (row * w / t) + lane) ≡ x → slice_index p (lanes * ((row * w + w - 1) / t) + lane) ≡ y → x < 2 ^ t → y < 2 ^ t
    → z ≡ (x + y * 2 ^ t) / 2 ^ s % 2 ^ w
    → z ≡ row_digit t lanes w p lane row
digit_of_words t lanes w lane row s p x y z size in_rows some narrow shift is last small big joined =
    let rows : 0 < t = omega (arith, size) in
    let low : row * w % t < t = mod_below (row * w) t rows in
    elim (cases_lt t (row * w % t + w)) [
      | inl more ↦
          let up : lanes * ((row * w + w - 1) / t) + lane ≡ lanes * (row * w / t) + lane + lanes = rw (last_in_next t w row low narrow more) (omega arith) in
          (rw shift at joined) ∙ read_pair t lanes w lane row p x y rows in_rows more is (sym (ap (slice_index p) up) ∙ last) small big narrow
      | inr fits ↦
          let drops : (x + y * 2 ^ t) / 2 ^ (row * w % t) % 2 ^ w ≡ x / 2 ^ (row * w % t) % 2 ^ w = high_drops x y t (row * w % t) w (omega arith) in
          (rw shift at joined) ∙ drops ∙ read_one t lanes w lane row p x rows in_rows some fits is small
    ]

-- the digit at a place is that of its row and lane
pub digit-rows : (t lanes w i lane row : ℕ) (p : List ℕ) → lane ≡ lane_at lanes i → row ≡ row_at lanes i → row_digit t lanes w p lane row ≡ digit t lanes w p i
unfolding digit
digit-rows t lanes w i lane row p is_lane is_row = rw (is_lane, is_row) refl

-- at width 0 every digit is 0
pub digit_at_zero : (t lanes i : ℕ) (p : List ℕ) → digit t lanes 0 p i ≡ 0
unfolding digit
digit_at_zero t lanes i p = mod-one _

-- one more entry of a table
pub entry_more : (f : ℕ → ℕ) (v : List ℕ) (j x : ℕ) → j < length v → x ≡ f j → ((k : ℕ) → k < j → slice_index v k ≡ f k)
    → (k : ℕ) → k < j + 1 → slice_index (set v j x) k ≡ f k
entry_more f v j x in_range is before = below_more _ _
    (λ k h. let ne : k ≢ j = omega arith in get_or-set_other v j k x 0 ne ∙ before k h)
    (get_or-set_same v j x 0 in_range ∙ is)

-- one more element of which the number is known
pub chosen_more : {X : Type 0} (number : X → ℕ) (f : ℕ → ℕ) (v : List X) (j : ℕ) (x : X) → j < length v → number x ≡ f j
    → ((k : ℕ) → k < j → slice_index (map number v) k ≡ f k) → (k : ℕ) → k < j + 1 → slice_index (map number (set v j x)) k ≡ f k
chosen_more number f v j x in_range is before =
    let in_numbers : j < length (map number v) = rw length-map in_range in
    rw map-set (entry_more f (map number v) j (number x) in_numbers is before)

-- all chosen digits
pub chosen_all : {X : Type 0} (number : X → ℕ) (digit_of : ℕ → ℕ) (v : List X) (indices : List ℕ) (j : ℕ) → length v ≡ length indices → j ≡ length v
    → ((k : ℕ) → k < j → slice_index (map number v) k ≡ digit_of (slice_index indices k)) → map number v ≡ map digit_of indices
chosen_all number digit_of v indices j long last each =
    let same_length : length (map number v) ≡ length (map digit_of indices) = rw (length-map, length-map) long in
    ext_get_or 0 (map number v) (map digit_of indices) same_length (λ k h.
    let in_list : k < length v = rw length-map at h in
    each k (omega arith) ∙ sym (get_or-map digit_of indices k 0 0 (omega arith)))

-- the rows of every sixteenth place, in lanes of 64 rows
abbrev pub rows : List ℕ
rows = 0 ∷ 32 ∷ 16 ∷ 48 ∷ 8 ∷ 40 ∷ 24 ∷ 56 ∷ 1 ∷ 33 ∷ 17 ∷ 49 ∷ 9 ∷ 41 ∷ 25 ∷ 57 ∷ 2 ∷ 34 ∷ 18 ∷ 50 ∷ 10 ∷ 42 ∷ 26 ∷ 58 ∷ 3 ∷ 35 ∷ 19 ∷ 51 ∷ 11 ∷ 43 ∷ 27 ∷ 59 ∷ 4 ∷ 36 ∷ 20 ∷ 52 ∷ 12 ∷ 44 ∷ 28 ∷ 60 ∷ 5 ∷ 37 ∷ 21 ∷ 53 ∷ 13 ∷ 45 ∷ 29 ∷ 61 ∷ 6 ∷ 38 ∷ 22 ∷ 54 ∷ 14 ∷ 46 ∷ 30 ∷ 62 ∷ 7 ∷ 39 ∷ 23 ∷ 55 ∷ 15 ∷ 47 ∷ 31 ∷ 63 ∷ []

abbrev has_rows : ℕ → ℕ → Bool
has_rows lanes i = nat_eq (slice_index rows (i / lanes * (lanes / 16))) (row_at lanes i) && nat_eq (row_at lanes (lanes * (i / lanes))) (row_at lanes i)

computed_rows : (t lanes i : ℕ) → IsLayout t lanes → i < 1024 → has_rows lanes i ≡ true
computed_rows t lanes i layout in_block =
    let by : (n : ℕ) → lanes ≡ n → has_rows n i ≡ true → has_rows lanes i ≡ true = λ n is right. rw is right in
    elim layout.size [
      | inl is ↦ by 128 (omega (arith, rw is at layout.area)) (agree_below_at (has_rows 128) (λ _. true) 1024 i refl in_block)
      | inr (inl is) ↦ by 64 (omega (arith, rw is at layout.area)) (agree_below_at (has_rows 64) (λ _. true) 1024 i refl in_block)
      | inr (inr (inl is)) ↦ by 32 (omega (arith, rw is at layout.area)) (agree_below_at (has_rows 32) (λ _. true) 1024 i refl in_block)
      | inr (inr (inr is)) ↦ by 16 (omega (arith, rw is at layout.area)) (agree_below_at (has_rows 16) (λ _. true) 1024 i refl in_block)
    ]

-- in shorter lanes they are those of every second, fourth or eighth entry
pub row_by_table : (t lanes i : ℕ) → IsLayout t lanes → i < 1024 → slice_index rows (i / lanes * (lanes / 16)) ≡ row_at lanes i
row_by_table t lanes i layout in_block = eqb-true _ _ (and_parts _ _ (computed_rows t lanes i layout in_block)).0

-- the rows of lane 0 are those of every lane
row_at_start : (t lanes i : ℕ) → IsLayout t lanes → i < 1024 → row_at lanes (lanes * (i / lanes)) ≡ row_at lanes i
row_at_start t lanes i layout in_block = eqb-true _ _ (and_parts _ _ (computed_rows t lanes i layout in_block)).1

-- the words that a row is in are among those of all lanes
pub first_place : (t lanes w lane row place : ℕ) → 0 < t → row < t → 0 < w → lane < lanes → place ≡ lanes * (row * w / t) + lane → place < lanes * w
first_place t lanes w lane row place rows in_rows some in_lanes is =
    let below : row * w / t < w = first_below t w row rows in_rows some in
    rw is (grind (arith, below))

pub next_place : (t lanes w lane row place : ℕ) → 0 < t → row < t → lane < lanes → place ≡ lanes * (row * w / t) + lane → t < row * w % t + w → place + lanes < lanes * w
next_place t lanes w lane row place rows in_rows in_lanes is more =
    let below : row * w / t + 1 < w = next_below t w row rows in_rows more in
    rw is (grind (arith, below))

-- and the one that holds a bit
pub bit_place_below : (t lanes w lane bit : ℕ) → 0 < t → lane < lanes → bit < w * t → lanes * (bit / t) + lane < lanes * w
bit_place_below t lanes w lane bit rows in_lanes in_words =
    let below : bit / t < w = word_below w t bit rows in_words in
    grind (arith, below)

-- what a table of the rows of lane 0 says of the row at a place
pub start_of : (t lanes i row : ℕ) (f : ℕ → ℕ) (v : List ℕ) → IsLayout t lanes → i < 1024 → row ≡ row_at lanes i
    → ((k : ℕ) → k < t → slice_index v k ≡ f (row_at lanes (lanes * k))) → slice_index v (i / lanes) ≡ f row
start_of t lanes i row f v layout in_block is each =
    let in_rows : i / lanes < t = div_below i lanes t (some_lanes t lanes layout) (rw layout.area in_block) in
    each (i / lanes) in_rows ∙ ap f (row_at_start t lanes i layout in_block ∙ sym is)

pub lane_below : (t lanes i : ℕ) → IsLayout t lanes → i % lanes < lanes
lane_below t lanes i layout = mod_below i lanes (some_lanes t lanes layout)

-- where a row of lane 0 stands, and where it begins
pub start_in_block : (t lanes row : ℕ) → IsLayout t lanes → row < t → lanes * row < 1024
start_in_block t lanes row layout in_rows =
    let some : 0 < lanes = some_lanes t lanes layout in
    let area : t * lanes ≡ 1024 = layout.area in
    grind arith

pub word_in_block : (t lanes w row : ℕ) → IsLayout t lanes → row < t → 0 < w → w ≤ t → lanes * (row * w / t) < 1024
word_in_block t lanes w row layout in_rows some narrow =
    let below : row * w / t < w = first_below t w row (omega arith) in_rows some in
    start_in_block t lanes (row * w / t) layout (omega arith)

pub shift_below_64 : (x t : ℕ) → IsWordSize t → x % t < 64
shift_below_64 x t size =
    let below : x % t < t = mod_below x t (omega arith) in
    omega arith

-- the rows before a row have fewer bits than 64 words
pub bits_in_rows : (t w row : ℕ) → IsWordSize t → row < t → w ≤ t → row * w < 4096
bits_in_rows t w row size in_rows narrow =
    let rows : row < 64 = omega arith in
    let bits : w ≤ 64 = omega arith in
    grind arith

-- the first and the last bit of a row are among those of its lane
pub first_bit_in_lane : (t w row : ℕ) → row < t → 0 < w → row * w < w * t
first_bit_in_lane t w row in_rows some = grind arith

pub last_bit_in_lane : (t w row : ℕ) → row < t → 0 < w → row * w + w - 1 < w * t
last_bit_in_lane t w row in_rows some =
    let all : row * w + w ≤ w * t = grind arith in
    omega arith

-- an entry of a table of 64 rows
pub start_below_64 : (t lanes i : ℕ) → IsLayout t lanes → i < 1024 → i / lanes < 64
start_below_64 t lanes i layout in_block =
    let size : IsWordSize t = layout.size in
    let in_rows : i / lanes < t = div_below i lanes t (some_lanes t lanes layout) (rw layout.area in_block) in
    omega arith

pub entry_below_64 : (t lanes i : ℕ) → IsLayout t lanes → i < 1024 → i / lanes * (lanes / 16) < 64
entry_below_64 t lanes i layout in_block =
    let by : (n : ℕ) → lanes ≡ n → i / n * (n / 16) < 64 → i / lanes * (lanes / 16) < 64 = λ n is below. rw is below in
    elim layout.size [
      | inl is ↦ by 128 (omega (arith, rw is at layout.area)) (omega arith)
      | inr (inl is) ↦ by 64 (omega (arith, rw is at layout.area)) (omega arith)
      | inr (inr (inl is)) ↦ by 32 (omega (arith, rw is at layout.area)) (omega arith)
      | inr (inr (inr is)) ↦ by 16 (omega (arith, rw is at layout.area)) (omega arith)
    ]
