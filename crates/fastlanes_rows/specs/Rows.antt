-- A row of n lanes side by side, on its way: `at`, `carry`, `value` and `rest` give a number for each of the lanes.
use Rattle.std.specs.Prelude.{◌≡◌, ◌⊎◌, ℕ, ◌+◌, ◌-◌, ◌*◌, ◌/◌, ◌%◌, ◌^◌, ◌<◌, ◌≤◌, List, length, map, slice_index}
use Rattle.fastlanes_base.specs.Counted.{Counted, Written}
use Rattle.fastlanes_base.specs.Digits.{element_number, lane_number, row_digit}
use Rattle.fastlanes_base.specs.Order.{place}
use Rattle.fastlanes_rows.specs.Row.{CarriesWord, HoldsDigits, with_row}

-- how many words of t bits the first rows reach into, at width w
abbrev pub words_begun : ℕ → ℕ → ℕ → ℕ
words_begun t w row = (row * w + (t - 1)) / t

-- the w bits from bit `shift` on of the number whose words of t bits are lo and hi
abbrev pub joined_bits : ℕ → ℕ → ℕ → ℕ → ℕ → ℕ
joined_bits t w shift lo hi = (lo + hi * 2 ^ t) / 2 ^ shift % 2 ^ w

-- n lanes have these values
abbrev pub HasLanes : ℕ → (ℕ → ℕ) → (ℕ → ℕ) → Type 0
HasLanes n at value = (j : ℕ) → j < n → at j ≡ value j

-- the values of n lanes are below this number
abbrev pub LanesBelow : ℕ → (ℕ → ℕ) → ℕ → Type 0
LanesBelow n at bound = (j : ℕ) → j < n → at j < bound

-- of n lanes from `lane` on, `at` gives the words of number k
abbrev pub IsRowOfWords : ℕ → ℕ → ℕ → ℕ → List ℕ → (ℕ → ℕ) → Type 0
IsRowOfWords n lanes lane k p at = (j : ℕ) → j < n → slice_index p (lanes * k + (lane + j)) ≡ at j

-- of n lanes from `lane` on, `at` gives the words in which the bits of a row begin
abbrev pub BeginsIn : ℕ → ℕ → ℕ → ℕ → ℕ → ℕ → List ℕ → (ℕ → ℕ) → Type 0
BeginsIn n t lanes w lane row p at = IsRowOfWords n lanes lane (row * w / t) p at

-- the same, where the row before has bits in them too
abbrev pub CarriesWords : ℕ → ℕ → ℕ → ℕ → ℕ → ℕ → List ℕ → (ℕ → ℕ) → Type 0
CarriesWords n t lanes w lane row p at = (j : ℕ) → j < n → CarriesWord t lanes w (lane + j) row p (at j)

-- what a row of n lanes tells the next one: the row of words that it took, or what it was told where it took none
pub record TellsNext {X C : Type 0} (n t lanes w row : ℕ) (number : X → ℕ) (at : C → ℕ → ℕ) (s u : Counted X) (carry rest : C) : Type 0 where
  pub takes : s.count < u.count → IsRowOfWords n lanes s.lane s.count (map number s.words) (at rest)
  pub keeps : u.count ≡ s.count → rest ≡ carry
  pub carried : CarriesWords n t lanes w s.lane (row + 1) (map number s.words) (at rest)

-- the list q is v with n elements from `to` on that `at` gives
pub record IsStored (n to : ℕ) (at : ℕ → ℕ) (v q : List ℕ) : Type 0 where
  pub long : length q ≡ length v
  pub here : (j : ℕ) → j < n → slice_index q (to + j) ≡ at j
  pub before : (i : ℕ) → i < to → slice_index q i ≡ slice_index v i
  pub after : (i : ℕ) → to + n ≤ i → slice_index q i ≡ slice_index v i

-- the bits left of the rows before, with those of a row's values above them, fill no word, and are what is left
abbrev pub StaysInWord : ℕ → ℕ → ℕ → ℕ → (ℕ → ℕ) → (ℕ → ℕ) → (ℕ → ℕ) → Type 0
StaysInWord n t w row carry value rest = (j : ℕ) → j < n → rest j ≡ with_row t w row (carry j) (value j)

-- they fill a word: it is written, and what it has no room for is left
pub record FillsRow {X : Type 0} (n t lanes w row : ℕ) (number : X → ℕ) (carry value rest : ℕ → ℕ) (s u : Written X) : Type 0 where
  pub stored : IsStored n (lanes * (row * w / t) + s.lane) (λ j. with_row t w row (carry j) (value j) % 2 ^ t) (map number s.words) (map number u.words)
  pub left : (j : ℕ) → j < n → rest j ≡ with_row t w row (carry j) (value j) / 2 ^ t
  pub step : u ≡ record s { words = u.words; count = row * w / t + 1 }

-- a row of n lanes is packed: its bits fill no word, and nothing is written, or they fill one in each lane
pub record PacksRow {X : Type 0} (n t lanes w row : ℕ) (number : X → ℕ) (carry value rest : ℕ → ℕ) (s u : Written X) : Type 0 where
  pub stays : row * w % t + w < t → (u ≡ s) × StaysInWord n t w row carry value rest
  pub fills : t ≤ row * w % t + w → FillsRow n t lanes w row number carry value rest s u

-- the first rows of n lanes from `lane` on stand in the block v, as `at` gives them
abbrev pub HasRows : ℕ → ℕ → ℕ → (ℕ → ℕ → ℕ) → List ℕ → Type 0
HasRows n lane rows at v = (j row : ℕ) → j < n → row < rows → slice_index v (place row (lane + j)) ≡ at (lane + j) row

-- a lane is none of the n lanes from `lane` on
abbrev pub IsBesideLanes : ℕ → ℕ → ℕ → Type 0
IsBesideLanes n lane other = (other < lane) ⊎ (lane + n ≤ other)

-- the block q is v but for the places of n lanes from `lane` on
pub record IsBesidePlaces (n t lanes lane : ℕ) (v q : List ℕ) : Type 0 where
  pub long : length q ≡ length v
  pub others : (other row : ℕ) → other < lanes → row < t → IsBesideLanes n lane other → slice_index q (place row other) ≡ slice_index v (place row other)

-- the first rows of n lanes from `lane` on are packed to the words of s, as `at` gives them, and `carry` has the bits of
-- each lane that fill no word
pub record HoldsGroup {X : Type 0} (n t lanes w lane rows : ℕ) (number : X → ℕ) (at : ℕ → ℕ → ℕ) (s : Written X) (carry : ℕ → ℕ) : Type 0 where
  pub same_width : s.width ≡ w
  pub same_lane : s.lane ≡ lane
  pub count : s.count ≡ rows * w / t
  pub holds : (j : ℕ) → j < n → HoldsDigits t lanes w (lane + j) rows (at (lane + j)) (map number s.words) (carry j)

-- what u writes is what s does, but for the words of n lanes from `lane` on and their count
pub record IsBesideWords {X : Type 0} (n lanes lane : ℕ) (number : X → ℕ) (s u : Written X) : Type 0 where
  pub same : u ≡ record s { words = u.words; count = u.count }
  pub long : length u.words ≡ length s.words
  pub others : (k : ℕ) → IsBesideLanes n lane (k % lanes) → slice_index (map number u.words) k ≡ slice_index (map number s.words) k

-- the first rows of n lanes from `lane` on are read from the words of s, and `carry` has the words in which the bits of the
-- next row begin
pub record ReadsRows {X : Type 0} (n t lanes w lane rows : ℕ) (number : X → ℕ) (s : Counted X) (carry : ℕ → ℕ) : Type 0 where
  pub same_width : s.width ≡ w
  pub same_lane : s.lane ≡ lane
  pub count : s.count ≡ words_begun t w rows
  pub carries : CarriesWords n t lanes w lane rows (map number s.words) carry

-- n lanes of the block v are packed to the words that u writes, and of what s wrote nothing else is changed
pub record PacksLanes {X : Type 0} (n t lanes w : ℕ) (number : X → ℕ) (v : List ℕ) (s u : Written X) : Type 0 where
  pub packed : (j : ℕ) → j < n → lane_number t lanes w (s.lane + j) (map number u.words) ≡ element_number t w (s.lane + j) v
  pub others : (k : ℕ) → IsBesideLanes n s.lane (k % lanes) → slice_index (map number u.words) k ≡ slice_index (map number s.words) k
  pub long : length u.words ≡ length s.words
  pub step : u ≡ record s { words = u.words; count = w }

-- in the block q stand the digits of n lanes from `lane` on, and in the other lanes what stands in v
pub record UnpacksLanes (n t lanes w lane : ℕ) (p v q : List ℕ) : Type 0 where
  pub long : length q ≡ length v
  pub digits : (j row : ℕ) → j < n → row < t → slice_index q (place row (lane + j)) ≡ row_digit t lanes w p (lane + j) row
  pub others : (other row : ℕ) → other < lanes → row < t → IsBesideLanes n lane other → slice_index q (place row other) ≡ slice_index v (place row other)

-- so many lanes side by side are a group, and some groups are all lanes
abbrev pub MakesGroups : ℕ → ℕ → Type 0
MakesGroups lanes n = (0 < n) × (n ≤ lanes) × (n * (lanes / n) ≡ lanes)
