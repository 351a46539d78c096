-- Where the bits of a group of eight rows and eight lanes stand.
use Rattle.std.proofs.Common.{◌≡◌, ℕ, ◌+◌, ◌-◌, ◌*◌, ◌/◌, ◌%◌, ◌<◌, slice_index, lit<, subst, sym, arith}
use Rattle.std.proofs.lemmas.Grind.{common_steps}
use Rattle.std.proofs.lemmas.Nat.{div_below, mod_below, mul-add-lt}
use Rattle.fastlanes_base.specs.Element.{IsLayout, IsWordSize}
use Rattle.fastlanes_base.specs.Order.{order, place, lane_at, row_at, transposed_index}
use Rattle.fastlanes_base.proofs.Places.{lane_at-place, layout_64, row_at-lt, row_at-place, some_lanes}
use Rattle.fastlanes_masks.specs.Bits.{lane_bit}
use Rattle.fastlanes_masks.specs.Bytes.{unscatter_place}

lane_at-group : (t lanes k r c : ℕ) → IsLayout t lanes → k < 16 → r < 8 → c < 8
    → lane_at lanes (8 * k + 128 * r + c) ≡ lane_at lanes (8 * k) + c
lane_at-group t lanes k r c layout in_groups in_rows in_lanes = grind (arith, common_steps, layout.size, layout.area)

row_at-group : (t lanes k r c : ℕ) → IsLayout t lanes → k < 16 → r < 8 → c < 8
    → row_at lanes (8 * k + 128 * r + c) ≡ row_at lanes (8 * k) + r
row_at-group t lanes k r c layout in_groups in_rows in_lanes =
    let i = 8 * k + 128 * r + c in
    let lane = lane_at-group t lanes k r c layout in_groups in_rows in_lanes in
    let row : i / 128 ≡ 8 * k / 128 + r = omega arith in
    let eight : (i % 128 - lane_at lanes i) / 16 ≡ (8 * k % 128 - lane_at lanes (8 * k)) / 16 = omega arith in
    rw eight (omega arith)

row_at-first : (t lanes k : ℕ) → IsLayout t lanes → k < 16 → row_at lanes (8 * k) % 8 ≡ 0
row_at-first t lanes k layout in_groups = omega arith

bytes_apart : (t lane row r c : ℕ) → IsWordSize t → row % 8 ≡ 0
    → 8 * ((lane * t + row) / 8 + t / 8 * c) + r ≡ (lane + c) * t + (row + r)
bytes_apart t lane row r c size whole = grind (arith, common_steps)

-- the bits of a group's lanes stand t / 8 bytes apart
pub group_bit : (t lanes k r c : ℕ) → IsLayout t lanes → k < 16 → r < 8 → c < 8
    → 8 * (lane_bit t lanes (8 * k) / 8 + t / 8 * c) + r ≡ lane_bit t lanes (8 * k + 128 * r + c)
group_bit t lanes k r c layout in_groups in_rows in_lanes =
    let lane = lane_at-group t lanes k r c layout in_groups in_rows in_lanes in
    let row = row_at-group t lanes k r c layout in_groups in_rows in_lanes in
    let parts = bytes_apart t (lane_at lanes (8 * k)) (row_at lanes (8 * k)) r c layout.size (row_at-first t lanes k layout in_groups) in
    cc

pub lane_bit-place : (t lanes row lane : ℕ) → IsLayout t lanes → row < t → lane < lanes → lane_bit t lanes (place row lane) ≡ lane * t + row
lane_bit-place t lanes row lane layout in_rows in_lanes =
    let its_lane = lane_at-place t lanes row lane layout in_rows in_lanes in
    let its_row = row_at-place t lanes row lane layout in_rows in_lanes in
    cc

-- the bit of a row of a lane, in the order of lanes
pub bit_of_lane-lt : (t lanes row lane : ℕ) → IsLayout t lanes → row < t → lane < lanes → lane * t + row < 1024
bit_of_lane-lt t lanes row lane layout in_rows in_lanes = subst (λ n. lane * t + row < n) layout.area (mul-add-lt lane t row lanes in_lanes in_rows)

lane_bit-lt : (t lanes i : ℕ) → IsLayout t lanes → i < 1024 → lane_bit t lanes i < 1024
lane_bit-lt t lanes i layout in_block =
    bit_of_lane-lt t lanes (row_at lanes i) (lane_at lanes i) layout (row_at-lt t lanes i layout in_block)
    (mod_below i lanes (some_lanes t lanes layout))

-- the eight bytes of a group's lanes stand in the block
pub group_bytes-lt : (t lanes k : ℕ) → IsLayout t lanes → k < 16 → lane_bit t lanes (8 * k) / 8 + 7 * (t / 8) < 128
group_bytes-lt t lanes k layout in_groups =
    let last = 8 * k + 128 * 7 + 7 in
    omega (arith, group_bit t lanes k 7 7 layout in_groups (lit< tt) (lit< tt), lane_bit-lt t lanes last layout (omega arith))

some_rows : (t lanes : ℕ) → IsLayout t lanes → 0 < t
some_rows t lanes layout = grind (arith, layout.area)

pub row_of_bit-lt : (t lanes b : ℕ) → IsLayout t lanes → b % t < t
row_of_bit-lt t lanes b layout = mod_below b t (some_rows t lanes layout)

pub lane_of_bit-lt : (t lanes b : ℕ) → IsLayout t lanes → b < 1024 → b / t < lanes
lane_of_bit-lt t lanes b layout in_block = div_below b t lanes (some_rows t lanes layout) (omega (arith, layout.area))

-- the bits of a group's rows stand 16 bytes apart
pub group_place : (q h r c : ℕ) → r < 8 → 8 * (slice_index order q * 2 + h + 16 * r) + c ≡ place (8 * q + r) (8 * h + c)
group_place q h r c in_rows =
    let eights : (8 * q + r) / 8 ≡ q = omega arith in
    let ones : (8 * q + r) % 8 ≡ r = omega arith in
    rw (eights, ones) (omega arith)

pub unscattered_bit : (t k r c : ℕ) → r < 8
    → 8 * unscatter_place t (8 * k + r) + c ≡ place (8 * (k % (t / 8)) + r) (8 * (k / (t / 8)) + c)
unscattered_bit t k r c in_rows =
    let group : (8 * k + r) / 8 ≡ k = omega arith in
    let byte : (8 * k + r) % 8 ≡ r = omega arith in
    rw (group, byte) (rw (sym (group_place (k % (t / 8)) (k / (t / 8)) r c in_rows)) (omega arith))

pub transposed_index-of_words : (row lane : ℕ) → row < 64 → lane < 16 → transposed_index (place row lane) ≡ lane * 64 + row
transposed_index-of_words row lane in_rows in_lanes =
    let i = place row lane in
    let eight : i / 16 % 8 ≡ (i % 128 - i % 16) / 16 = omega arith in
    rw eight (omega (arith, lane_bit-place 64 16 row lane layout_64 in_rows in_lanes))
