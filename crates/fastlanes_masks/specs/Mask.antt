-- The answers of a comparison, as bits.
use Rattle.std.specs.Prelude.{◌≡◌, ℕ, ◌+◌, ◌*◌, ◌/◌, ◌%◌, ◌<◌, ◌^◌, Bool, List, if◌then◌else◌, length, slice_index}
use Rattle.std.specs.Int.{bit_at}
use Rattle.fastlanes_base.specs.Digits.{row_digit}
use Rattle.fastlanes_masks.specs.Bits.{block_bit, lane_bit}

-- the bit is an answer for a digit: one that the comparison may give for the word of that number, as it is unpacked,
-- and the value
abbrev pub IsAnswer : {E V : Type 0} → (E → ℕ) → (E → V) → (V → V → Bool → Type 0) → V → ℕ → ℕ → Type 0
IsAnswer {E} number unpacked answers value x bit =
    (word : E) × (number word ≡ x) × (answer : Bool) × answers (unpacked word) value answer × (bit ≡ (if answer then 1 else 0))

-- the comparison may be asked about a digit
abbrev pub IsComparable : {E V : Type 0} → (E → ℕ) → (E → V) → (V → V → Type 0) → V → ℕ → Type 0
IsComparable {E} number unpacked may value x = (word : E) → number word ≡ x → may (unpacked word) value

-- the comparison may be asked about the number that `at` gives for each place
abbrev pub MayAsk : {E V : Type 0} → (E → ℕ) → (E → V) → (V → V → Type 0) → V → (ℕ → ℕ) → Type 0
MayAsk number unpacked may value at = (i : ℕ) → i < 1024 → IsComparable number unpacked may value (at i)

-- Masks of the numbers that `at` gives for the places of a block; `answers` says which bits are answers for a number.

-- in the order of lanes: the bit of a row of a lane is an answer for the number there
pub record IsLaneMask (t lanes : ℕ) (answers : ℕ → ℕ → Type 0) (at : ℕ → ℕ) (m : List ℕ) : Type 0 where
  pub each : (i : ℕ) → i < 1024 → answers (at i) (block_bit m (lane_bit t lanes i))

-- in the order of places: bit i is an answer for the number at the place i
pub record IsPlaceMask (answers : ℕ → ℕ → Type 0) (at : ℕ → ℕ) (m : List ℕ) : Type 0 where
  pub each : (i : ℕ) → i < 1024 → answers (at i) (block_bit m i)

-- the comparison may be asked about the digit of each row of each lane
unfoldable pub AreComparable : ℕ → ℕ → ℕ → (ℕ → Type 0) → List ℕ → Type 0
AreComparable t lanes w may p = (lane row : ℕ) → lane < lanes → row < t → may (row_digit t lanes w p lane row)

-- the lowest n bits of a word are answers for the digits of a lane's first n rows, and it has no others
pub record GatheredParts (answers : ℕ → ℕ → Type 0) (at : ℕ → ℕ) (n word : ℕ) : Type 0 where
  pub below : word < 2 ^ n
  pub each : (row : ℕ) → row < n → answers (at row) (bit_at word row)

-- the same, as a word whose parts a proof sees where it asks for them
unfoldable pub IsGathered : (ℕ → ℕ → Type 0) → (ℕ → ℕ) → ℕ → ℕ → Type 0
IsGathered answers at n word = GatheredParts answers at n word

-- so many lanes have their answers in a mask, in the order of lanes
pub record AnswersLanes (t n : ℕ) (answers : ℕ → ℕ → Type 0) (at : ℕ → ℕ → ℕ) (m : List ℕ) : Type 0 where
  pub each : (lane row : ℕ) → lane < n → row < t → answers (at lane row) (block_bit m (lane * t + row))

-- the words of so many lanes have their answers
pub record LanesAnswer (t n : ℕ) (answers : ℕ → ℕ → Type 0) (at : ℕ → ℕ → ℕ) (words : List ℕ) : Type 0 where
  pub long : length words ≡ n
  pub each : (lane : ℕ) → lane < n → GatheredParts answers (at lane) t (slice_index words lane)

-- byte n of words of t bits each, side by side
abbrev pub lane_byte : ℕ → List ℕ → ℕ → ℕ
lane_byte t words n = slice_index words (n / (t / 8)) / 2 ^ (8 * (n % (t / 8))) % 2 ^ 8
