-- What a row reads: its digits, and the words that it tells the next row.
use Rattle.std.proofs.Common.{◌≡◌, ℕ, ◌+◌, ◌*◌, ◌/◌, ◌%◌, ◌^◌, ◌<◌, ◌≤◌, List, map, refl, ap, sym, ◌∙◌, arith, inl, inr, mul-zero}
use Rattle.std.proofs.lemmas.Bool.{cases_lt}
use Rattle.std.specs.List.{slice_index}
use Rattle.fastlanes_base.specs.Counted.{Counted}
use Rattle.fastlanes_base.specs.Digits.{row_digit}
use Rattle.fastlanes_rows.specs.Row.{CarriesWord}
use Rattle.fastlanes_rows.proofs.PackedRows.{next_fills, next_stays}
use Rattle.fastlanes_rows.proofs.RowDigits.{read_one, read_pair}
use Rattle.fastlanes_rows.proofs.RowWords.{carries_next, next_word}
use Rattle.fastlanes_rows.specs.Rows.{CarriesWords, ReadsRows, words_begun}

-- a digit in one word, which is moved down and cut
pub digit_in_one : (t lanes w lane row : ℕ) (p : List ℕ) (x y z : ℕ) → row < t → 0 < w → row * w % t + w ≤ t
    → slice_index p (lanes * (row * w / t) + lane) ≡ x → x < 2 ^ t → y ≡ x / 2 ^ (row * w % t) → z ≡ y % 2 ^ w → z ≡ row_digit t lanes w p lane row
digit_in_one t lanes w lane row p x y z in_rows some fits first below down low =
    low ∙ ap (λ k. k % 2 ^ w) down ∙ read_one t lanes w lane row p x (omega arith) in_rows some fits first below

-- a digit in two words, which are joined
pub digit_in_two : (t lanes w lane row : ℕ) (p : List ℕ) (x y z : ℕ) → row < t → w ≤ t → t < row * w % t + w
    → slice_index p (lanes * (row * w / t) + lane) ≡ x → y ≡ slice_index p (lanes * (row * w / t + 1) + lane) → x < 2 ^ t → (0 < row * w % t → y < 2 ^ t)
    → z ≡ (x + y * 2 ^ t) / 2 ^ (row * w % t) % 2 ^ w → z ≡ row_digit t lanes w p lane row
digit_in_two t lanes w lane row p x y z in_rows narrow more first next small big joined =
    joined ∙ read_pair t lanes w lane row p x y (omega arith) in_rows more first (next_word lanes lane (row * w / t) p y next) small (big (omega arith)) narrow

-- a row in one word tells it, where the next row has bits in it too, and a row in two words tells the second
pub carries_first : (t lanes w lane row : ℕ) (p : List ℕ) (x : ℕ) → row < t → w ≤ t → row * w % t + w ≤ t
    → slice_index p (lanes * (row * w / t) + lane) ≡ x → CarriesWord t lanes w lane (row + 1) p x
carries_first t lanes w lane row p x in_rows narrow fits first = record {
  is = λ inside. elim (cases_lt (row * w % t + w) t) [
    | inl room ↦ rw (next_stays t w row room).0 first
    | inr full ↦ absurd (omega (arith, (next_fills t w row (omega arith) narrow full).1))
  ];
}

pub carries_second : (t lanes w lane row : ℕ) (p : List ℕ) (y : ℕ) → row < t → w ≤ t → t < row * w % t + w
    → y ≡ slice_index p (lanes * (row * w / t + 1) + lane) → CarriesWord t lanes w lane (row + 1) p y
carries_second t lanes w lane row p y in_rows narrow more next = carries_next t lanes w lane row p y (omega arith) narrow more (next_word lanes lane (row * w / t) p y next)

-- rows of no bits tell nothing
pub carries_none : (t lanes w lane row : ℕ) (p : List ℕ) (x : ℕ) → 0 < t → w ≡ 0 → CarriesWord t lanes w lane row p x
carries_none t lanes w lane row p x z none = record {
  is = λ inside.
      let nothing : row * w ≡ 0 = ap (λ k. row * k) none ∙ mul-zero row in
      absurd (omega (arith, rw nothing at inside));
}

-- one more row
pub reads_more : {X : Type 0} (n t lanes w lane row : ℕ) (number : X → ℕ) (s u : Counted X) (carry rest : ℕ → ℕ) → ReadsRows n t lanes w lane row number s carry
    → u ≡ record s { count = words_begun t w (row + 1) } → CarriesWords n t lanes w s.lane (row + 1) (map number s.words) rest
    → ReadsRows n t lanes w lane (row + 1) number u rest
reads_more n t lanes w lane row number s u carry rest reads taken carried = rw taken
    record { same_width = reads.same_width; same_lane = reads.same_lane; count = refl; carries = rw reads.same_lane at carried }

-- the lanes are those that the words are read for
pub reads_lanes : {X : Type 0} (n t lanes w lane row : ℕ) (number : X → ℕ) (s : Counted X) (carry : ℕ → ℕ) → ReadsRows n t lanes w lane row number s carry
    → ReadsRows n t lanes w s.lane row number s carry
reads_lanes n t lanes w lane row number s carry reads = rw (sym reads.same_lane) at reads

-- words that are read on are the same but for how many were read
pub read_on : {X : Type 0} (k : ℕ) (start s u : Counted X) → u ≡ record s { count = k } → s ≡ record start { count = s.count } → u ≡ record start { count = u.count }
read_on {X} k start s u taken beside = rw taken (ap (λ (x : Counted X). record x { count = k }) beside)
