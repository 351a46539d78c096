-- A transpose by its sixteen groups moves each bit to its place.
use Rattle.std.proofs.Common.{◌≡◌, ℕ, ◌+◌, ◌*◌, ◌/◌, ◌%◌, ◌<◌, List, length, slice_index, below_more, below_none, ap, sym, ◌∙◌, arith}
use Rattle.std.specs.Int.{bit_at}
use Rattle.fastlanes_base.specs.Element.{IsLayout, IsWordSize}
use Rattle.fastlanes_base.specs.Order.{order, place}
use Rattle.fastlanes_base.proofs.Places.{place-lt}
use Rattle.fastlanes_masks.specs.Bits.{GathersBytes, IsBitBlock, Transposes8x8, TransposesBits, HoldsRows, HoldsLanes, UntransposesBits, block_bit, byte_steps, lane_bit}
use Rattle.fastlanes_masks.specs.Bytes.{gather_place, scatter_place, ungather_place, unscatter_place}
use Rattle.fastlanes_masks.proofs.BitPlaces.{bit_of_lane-lt, group_bit, group_place, lane_bit-place, unscattered_bit}
use Rattle.fastlanes_masks.proofs.ByteTables.{ComesFromSource, source_in_lanes, source_in_places, ungather_place-lt}

pub each_of_sixteen : (P : ℕ → Type 0) → P 0 → P 1 → P 2 → P 3 → P 4 → P 5 → P 6 → P 7 → P 8 → P 9 → P 10 → P 11 → P 12 → P 13
    → P 14 → P 15 → (k : ℕ) → k < 16 → P k
each_of_sixteen P p0 p1 p2 p3 p4 p5 p6 p7 p8 p9 p10 p11 p12 p13 p14 p15 =
    let low : (k : ℕ) → k < 8 → P k = below_more P 7 (below_more P 6 (below_more P 5 (below_more P 4 (below_more P 3 (below_more P 2 (below_more P 1 (below_more P 0 (below_none P) p0) p1) p2) p3) p4) p5) p6) p7 in
    below_more P 15 (below_more P 14 (below_more P 13 (below_more P 12 (below_more P 11 (below_more P 10 (below_more P 9 (below_more P 8 low p8) p9) p10) p11) p12) p13) p14) p15

pub holds_rows : (t lanes : ℕ) (input : List ℕ) (k x y : ℕ) → IsLayout t lanes → k < 16
    → GathersBytes input (byte_steps (lane_bit t lanes (8 * k) / 8) (t / 8)) 8 x → Transposes8x8 x y → HoldsRows t lanes input k y
holds_rows t lanes input k x y layout in_groups gathered turned = record {
  each = λ r c hr hc. turned.each c r hc hr ∙ gathered.each c r hc hr
      ∙ ap (λ b. block_bit input b) (group_bit t lanes k r c layout in_groups hr hc);
}

pub holds_lanes : (t : ℕ) (input : List ℕ) (k x y : ℕ) → GathersBytes input (byte_steps (slice_index order (k % (t / 8)) * 2 + k / (t / 8)) 16) 8 x
    → Transposes8x8 x y → HoldsLanes t input k y
holds_lanes t input k x y gathered turned = record {
  each = λ r c hr hc. turned.each r c hr hc ∙ gathered.each r c hr hc
      ∙ ap (λ b. block_bit input b) (group_place (k % (t / 8)) (k / (t / 8)) r c hr);
}

-- byte r of each group of eight makes a word of the block
from_groups : (groups : List ℕ) (half r y g c : ℕ) → half < 2 → r < 8 → g < 8 → c < 8 → GathersBytes groups (byte_steps (half * 64 + r) 8) 8 y
    → bit_at y (8 * g + c) ≡ bit_at (slice_index groups (8 * half + g)) (8 * r + c)
from_groups groups half r y g c in_block hr hg hc gathered =
    let b = 8 * (half * 64 + r + 8 * g) + c in
    let group : b / 64 ≡ 8 * half + g = omega arith in
    let bit : b % 64 ≡ 8 * r + c = omega arith in
    gathered.each g c hg hc ∙ ap (λ n. bit_at (slice_index groups n) (b % 64)) group ∙ ap (λ n. bit_at (slice_index groups (8 * half + g)) n) bit

moved_to : (t lanes : ℕ) (input groups output : List ℕ) (p : ℕ) → p < 1024
    → ((k : ℕ) → k < 16 → HoldsRows t lanes input k (slice_index groups k))
    → ((w : ℕ) → w < 16 → GathersBytes groups (byte_steps (w % 2 * 64 + w / 2) 8) 8 (slice_index output w))
    → block_bit output p ≡ block_bit input (lane_bit t lanes p)
moved_to t lanes input groups output p in_block turned gathered =
    let w = p / 64 in
    let g = p % 64 / 8 in
    let c = p % 8 in
    let bit : p % 64 ≡ 8 * g + c = omega arith in
    let whole : 8 * (8 * (w % 2) + g) + 128 * (w / 2) + c ≡ p = omega arith in
    ap (λ n. bit_at (slice_index output w) n) bit
    ∙ from_groups groups (w % 2) (w / 2) (slice_index output w) g c (omega arith) (omega arith) (omega arith) (omega arith) (gathered w (omega arith))
    ∙ (turned (8 * (w % 2) + g) (omega arith)).each (w / 2) c (omega arith) (omega arith)
    ∙ ap (λ n. block_bit input (lane_bit t lanes n)) whole

pub moves_to_places : (t lanes : ℕ) (input groups output : List ℕ) → IsLayout t lanes → length output ≡ 16
    → ((k : ℕ) → k < 16 → HoldsRows t lanes input k (slice_index groups k))
    → ((w : ℕ) → w < 16 → GathersBytes groups (byte_steps (w % 2 * 64 + w / 2) 8) 8 (slice_index output w))
    → TransposesBits t lanes input output
moves_to_places t lanes input groups output layout long turned gathered = record {
  block = record { long = long; small = λ w h. (gathered w h).below };
  each = λ row lane in_rows in_lanes.
      moved_to t lanes input groups output (place row lane) (place-lt t lanes row lane layout in_rows in_lanes) turned gathered
      ∙ ap (λ n. block_bit input n) (lane_bit-place t lanes row lane layout in_rows in_lanes);
}

-- bit c of the byte n of a block's groups is this bit of its group
bit_of_byte : (groups : List ℕ) (n c : ℕ) → c < 8 → block_bit groups (8 * n + c) ≡ bit_at (slice_index groups (n / 8)) (8 * (n % 8) + c)
bit_of_byte groups n c hc =
    let word : (8 * n + c) / 64 ≡ n / 8 = omega arith in
    let bit : (8 * n + c) % 64 ≡ 8 * (n % 8) + c = omega arith in
    ap (λ k. bit_at (slice_index groups k) ((8 * n + c) % 64)) word ∙ ap (λ i. bit_at (slice_index groups (n / 8)) i) bit

comes_from_places : (t : ℕ) (input groups output : List ℕ) → IsWordSize t
    → ((k : ℕ) → k < 16 → HoldsLanes t input k (slice_index groups k))
    → ((w : ℕ) → w < 16 → GathersBytes groups (λ j. ungather_place t (8 * w + j)) 8 (slice_index output w))
    → ComesFromSource (unscatter_place t) (ungather_place t) input output
comes_from_places t input groups output size turned gathered b within =
    let n = b / 8 in
    let c = b % 8 in
    let m = ungather_place t n in
    let m_within : m < 128 = ungather_place-lt t n size (omega arith) in
    let bit : b % 64 ≡ 8 * (n % 8) + c = omega arith in
    let byte : 8 * (b / 64) + n % 8 ≡ n = omega arith in
    ap (λ i. bit_at (slice_index output (b / 64)) i) bit
    ∙ (gathered (b / 64) (omega arith)).each (n % 8) c (omega arith) (omega arith)
    ∙ ap (λ n. block_bit groups (8 * ungather_place t n + c)) byte
    ∙ bit_of_byte groups m c (omega arith)
    ∙ (turned (m / 8) (omega arith)).each c (m % 8) (omega arith) (omega arith)
    ∙ ap (block_bit input) (sym (unscattered_bit t (m / 8) c (m % 8) (omega arith)))

-- each transpose, of a block whose bits come from where its tables say
pub transposes_from_source : (t lanes : ℕ) (input output : List ℕ) → IsLayout t lanes → IsBitBlock output
    → ComesFromSource (gather_place t) (scatter_place t) input output → TransposesBits t lanes input output
transposes_from_source t lanes input output layout block comes = record {
  block = block;
  each = λ row lane in_rows in_lanes.
      let within = place-lt t lanes row lane layout in_rows in_lanes in
      comes (place row lane) within
      ∙ ap (block_bit input) (source_in_lanes t lanes (place row lane) layout within ∙ lane_bit-place t lanes row lane layout in_rows in_lanes);
}

pub untransposes_from_source : (t lanes : ℕ) (input output : List ℕ) → IsLayout t lanes → IsBitBlock output
    → ComesFromSource (unscatter_place t) (ungather_place t) input output → UntransposesBits t lanes input output
untransposes_from_source t lanes input output layout block comes = record {
  block = block;
  each = λ row lane in_rows in_lanes. comes (lane * t + row) (bit_of_lane-lt t lanes row lane layout in_rows in_lanes)
      ∙ ap (block_bit input) (source_in_places t lanes row lane layout in_rows in_lanes);
}

pub moves_to_lanes : (t lanes : ℕ) (input groups output : List ℕ) → IsLayout t lanes → length output ≡ 16
    → ((k : ℕ) → k < 16 → HoldsLanes t input k (slice_index groups k))
    → ((w : ℕ) → w < 16 → GathersBytes groups (λ j. ungather_place t (8 * w + j)) 8 (slice_index output w))
    → UntransposesBits t lanes input output
moves_to_lanes t lanes input groups output layout long turned gathered =
    untransposes_from_source t lanes input output layout (record { long = long; small = λ w h. (gathered w h).below })
    (comes_from_places t input groups output layout.size turned gathered)

-- each transpose undoes the other
pub untransposes : (t lanes : ℕ) (x y : List ℕ) → IsBitBlock x → TransposesBits t lanes x y → UntransposesBits t lanes y x
untransposes t lanes x y block moved = record { block = block; each = λ row lane in_rows in_lanes. sym (moved.each row lane in_rows in_lanes) }

pub transposes_back : (t lanes : ℕ) (x y : List ℕ) → IsBitBlock x → UntransposesBits t lanes x y → TransposesBits t lanes y x
transposes_back t lanes x y block moved = record { block = block; each = λ row lane in_rows in_lanes. sym (moved.each row lane in_rows in_lanes) }
