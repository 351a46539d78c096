-- The bits of blocks, and where transposes move them.
use Rattle.std.specs.Prelude.{◌≡◌, ℕ, ◌+◌, ◌*◌, ◌/◌, ◌%◌, ◌^◌, ◌<◌, List, length, bit_and, bit_xor, slice_index}
use Rattle.std.specs.Int.{bit_at}
use Rattle.fastlanes_base.specs.Order.{place, lane_at, row_at}

-- a block of bits is sixteen words of 64 bits
pub record IsBitBlock (words : List ℕ) : Type 0 where
  pub long : length words ≡ 16
  pub small : (k : ℕ) → k < 16 → slice_index words k < 2 ^ 64

-- bit b of a block is bit b % 64 of its word b / 64
abbrev pub block_bit : List ℕ → ℕ → ℕ
block_bit words b = bit_at (slice_index words (b / 64)) (b % 64)

-- both words are eight rows of eight bits, and the rows of x are the columns of y
pub record Transposes8x8 (x y : ℕ) : Type 0 where
  pub each : (r c : ℕ) → r < 8 → c < 8 → bit_at y (8 * c + r) ≡ bit_at x (8 * r + c)

-- The input is in the order of lanes, the t bits of each lane side by side. The output is in the order of places: each
-- bit stands at the place of its row and lane.
pub record TransposesBits (t lanes : ℕ) (input output : List ℕ) : Type 0 where
  pub block : IsBitBlock output
  pub each : (row lane : ℕ) → row < t → lane < lanes
      → block_bit output (place row lane) ≡ block_bit input (lane * t + row)

-- The input is in the order of places, the output in the order of lanes: each bit goes from the place of its row and lane
-- to that row of the t bits of that lane.
pub record UntransposesBits (t lanes : ℕ) (input output : List ℕ) : Type 0 where
  pub block : IsBitBlock output
  pub each : (row lane : ℕ) → row < t → lane < lanes
      → block_bit output (lane * t + row) ≡ block_bit input (place row lane)

-- The steps of the transposes.

-- the bits of x that the mask m names, exchanged with those d above them
unfoldable pub swapped : ℕ → ℕ → ℕ → ℕ
swapped d m x =
    bit_xor (bit_xor x (bit_and (bit_xor x (x / 2 ^ d)) m)) (bit_and (bit_xor x (x / 2 ^ d)) m * 2 ^ d % 2 ^ 64)

-- byte n of a block
abbrev pub block_byte : List ℕ → ℕ → ℕ
block_byte words n = slice_index words (n / 8) / 2 ^ (8 * (n % 8)) % 2 ^ 8

-- the word is n bytes of a block, its byte j the one that `at` names
pub record GathersBytes (words : List ℕ) (at : ℕ → ℕ) (n word : ℕ) : Type 0 where
  pub below : word < 2 ^ (8 * n)
  pub each : (j c : ℕ) → j < n → c < 8 → bit_at word (8 * j + c) ≡ block_bit words (8 * at j + c)

-- the byte `start`, and those that follow it in steps of `stride`
abbrev pub byte_steps : ℕ → ℕ → ℕ → ℕ
byte_steps start stride j = start + stride * j

-- the bit of the place i in the order of lanes
abbrev pub lane_bit : ℕ → ℕ → ℕ → ℕ
lane_bit t lanes i = lane_at lanes i * t + row_at lanes i

-- Eight rows of eight lanes are a group. In the order of places each of its rows is a byte, in the order of lanes each
-- of its lanes.

-- the word has the rows of the group whose places are 8 * k + 128 * r + c, from an input in the order of lanes
pub record HoldsRows (t lanes : ℕ) (input : List ℕ) (k word : ℕ) : Type 0 where
  pub each : (r c : ℕ) → r < 8 → c < 8
      → bit_at word (8 * r + c) ≡ block_bit input (lane_bit t lanes (8 * k + 128 * r + c))

-- the word has the lanes of the group of the rows from 8 * (k % (t / 8)) on and the lanes from 8 * (k / (t / 8)) on,
-- from an input in the order of places
pub record HoldsLanes (t : ℕ) (input : List ℕ) (k word : ℕ) : Type 0 where
  pub each : (r c : ℕ) → r < 8 → c < 8
      → bit_at word (8 * c + r) ≡ block_bit input (place (8 * (k % (t / 8)) + r) (8 * (k / (t / 8)) + c))
