-- The tables of bytes are permutations, and lead each bit to its place: by computation.
use Rattle.std.proofs.Common.{◌≡◌, ℕ, ◌+◌, ◌*◌, ◌/◌, ◌%◌, ◌<◌, Bool, true, ◌&&◌, nat_eq, nat_lt, List, ◌++◌, length, slice_index, inl, inr, refl, ap, sym, ◌∙◌, subst, arith}
use Rattle.std.proofs.lemmas.Bool.{agree_below, agree_below_at, and_parts, eqb-true, ltb-true}
use Rattle.std.proofs.lemmas.Grind.{common_steps}
use Rattle.std.proofs.lemmas.List.{get_or-map, map-append}
use Rattle.std.proofs.lemmas.Nat.{div-mul-add, mod-mul-add}
use Rattle.std.specs.Simd.Lanes.{pick_l}
use Rattle.fastlanes_base.specs.Element.{IsLayout, IsWordSize}
use Rattle.fastlanes_base.specs.Order.{order, place}
use Rattle.fastlanes_masks.specs.Bits.{block_bit, lane_bit}
use Rattle.fastlanes_masks.specs.Bytes.{MovesByGroups, MovesBytes, PermutesBelow, TransposesGroups, gather_place, scatter_place, ungather_place, unscatter_place}
use Rattle.fastlanes_masks.proofs.BitPlaces.{bit_of_lane-lt}

pub same_below : (f g : ℕ → ℕ) (n i : ℕ) → agree_below (λ k. nat_eq (f k) (g k)) (λ _. true) n ≡ true → i < n → f i ≡ g i
same_below f g n i computed within = eqb-true _ _ (agree_below_at (λ k. nat_eq (f k) (g k)) (λ _. true) n i computed within)

-- two shuffles, whose positions are the two halves of the table that `at` gives for s
moves_by_tables : (at : ℕ → ℕ → ℕ) (t s : ℕ) (bytes low high : List ℕ) → t ≡ s → PermutesBelow (at t) 128
    → length (low ++ high) ≡ 128 → agree_below (λ n. nat_eq (slice_index (low ++ high) n) (at s n)) (λ _. true) 128 ≡ true
    → MovesBytes (at t) bytes (pick_l 0 bytes low ++ pick_l 0 bytes high)
moves_by_tables at t s bytes low high is permutes long computed = record {
  once = permutes;
  each = λ n within.
      ap (λ ys. slice_index ys n) (sym (map-append (slice_index bytes) low high))
      ∙ get_or-map (slice_index bytes) (low ++ high) n 0 0 (omega (arith, long))
      ∙ ap (slice_index bytes) (same_below (slice_index (low ++ high)) (at s) 128 n computed within ∙ ap (λ t. at t n) (sym is));
}

-- what shuffles by two such tables do, where the groups are transposed between them
pub groups_by_tables : (together apart : ℕ → ℕ → ℕ) (t s : ℕ) (bytes turned low high low' high' : List ℕ) → t ≡ s
    → PermutesBelow (together t) 128 → PermutesBelow (apart t) 128
    → length (low ++ high) ≡ 128 → agree_below (λ n. nat_eq (slice_index (low ++ high) n) (together s n)) (λ _. true) 128 ≡ true
    → length (low' ++ high') ≡ 128 → agree_below (λ n. nat_eq (slice_index (low' ++ high') n) (apart s n)) (λ _. true) 128 ≡ true
    → TransposesGroups (pick_l 0 bytes low ++ pick_l 0 bytes high) turned
    → MovesByGroups (together t) (apart t) bytes (pick_l 0 turned low' ++ pick_l 0 turned high')
groups_by_tables together apart t s bytes turned low high low' high' is once once' long computed long' computed' transposed = record {
  groups = pick_l 0 bytes low ++ pick_l 0 bytes high;
  turned = turned;
  gathered = moves_by_tables together t s bytes low high is once long computed;
  transposed = transposed;
  scattered = moves_by_tables apart t s turned low' high' is once' long' computed';
}

-- two formulas that undo each other, at the number k below 128
abbrev undo_each_other : (f g : ℕ → ℕ) (k : ℕ) → Bool
undo_each_other f g k = (nat_lt (f k) 128 && nat_eq (g (f k)) k) && (nat_lt (g k) 128 && nat_eq (f (g k)) k)

undone : (f g : ℕ → ℕ) (k : ℕ) → undo_each_other f g k ≡ true → ((f k < 128) × (g (f k) ≡ k)) × ((g k < 128) × (f (g k) ≡ k))
undone f g k holds =
    let parts = and_parts _ _ holds in
    let forth = and_parts _ _ parts.0 in
    let back = and_parts _ _ parts.1 in
    ((ltb-true _ _ forth.0, eqb-true _ _ forth.1), (ltb-true _ _ back.0, eqb-true _ _ back.1))

permutes : (f g : ℕ → ℕ) → ((k : ℕ) → k < 128 → (f k < 128) × (g (f k) ≡ k)) → ((k : ℕ) → k < 128 → (g k < 128) × (f (g k) ≡ k))
    → PermutesBelow f 128
permutes f g forth back = record {
  below = λ k within. (forth k within).0;
  once = λ j k hj hk same. sym (forth j hj).1 ∙ ap g same ∙ (forth k hk).1;
  takes = λ m within. (g m, (back m within).0, (back m within).1);
}

both_permute : (f g : ℕ → ℕ) → agree_below (undo_each_other f g) (λ _. true) 128 ≡ true → PermutesBelow f 128 × PermutesBelow g 128
both_permute f g computed =
    let at = λ (k : ℕ) (within : k < 128). undone f g k (agree_below_at (undo_each_other f g) (λ _. true) 128 k computed within) in
    (permutes f g (λ k h. (at k h).0) (λ k h. (at k h).1), permutes g f (λ k h. (at k h).1) (λ k h. (at k h).0))

by_size : (P : ℕ → Type 0) → P 8 → P 16 → P 32 → P 64 → (t : ℕ) → IsWordSize t → P t
by_size P p8 p16 p32 p64 t size = elim size [
  | inl is_8 ↦ subst P (sym is_8) p8
  | inr (inl is_16) ↦ subst P (sym is_16) p16
  | inr (inr (inl is_32)) ↦ subst P (sym is_32) p32
  | inr (inr (inr is_64)) ↦ subst P (sym is_64) p64
]

-- the tables for lanes of t bits are permutations
abbrev pub TablesPermute : ℕ → Type 0
TablesPermute t =
    (PermutesBelow (gather_place t) 128 × PermutesBelow (ungather_place t) 128)
    × (PermutesBelow (scatter_place t) 128 × PermutesBelow (unscatter_place t) 128)

pub tables_permute : (t : ℕ) → IsWordSize t → TablesPermute t
tables_permute =
    by_size TablesPermute
    (both_permute (gather_place 8) (ungather_place 8) refl, both_permute (scatter_place 8) (unscatter_place 8) refl)
    (both_permute (gather_place 16) (ungather_place 16) refl, both_permute (scatter_place 16) (unscatter_place 16) refl)
    (both_permute (gather_place 32) (ungather_place 32) refl, both_permute (scatter_place 32) (unscatter_place 32) refl)
    (both_permute (gather_place 64) (ungather_place 64) refl, both_permute (scatter_place 64) (unscatter_place 64) refl)

pub ungather_place-lt : (t n : ℕ) → IsWordSize t → n < 128 → ungather_place t n < 128
ungather_place-lt t n size within = (tables_permute t size).0.1.below n within

-- the eight bytes of a group's rows stand in the block
pub group_rows-lt : (t k : ℕ) → IsWordSize t → k < 16 → slice_index order (k % (t / 8)) * 2 + k / (t / 8) + 7 * 16 < 128
group_rows-lt t k size in_groups =
    let group : (8 * k + 7) / 8 ≡ k = omega arith in
    let byte : (8 * k + 7) % 8 ≡ 7 = omega arith in
    rw (group, byte) at ((tables_permute t size).1.1.below (8 * k + 7) (omega arith))

-- the bit of the input that bit b of the output comes from, where `before` and `after` move the bytes before and after the
-- groups are transposed
abbrev pub bit_source : (ℕ → ℕ) → (ℕ → ℕ) → ℕ → ℕ
bit_source before after b = 8 * before (8 * (after (b / 8) / 8) + b % 8) + after (b / 8) % 8

-- each bit of the output of such a transpose is the one of the input that it comes from
abbrev pub ComesFromSource : (ℕ → ℕ) → (ℕ → ℕ) → List ℕ → List ℕ → Type 0
ComesFromSource before after input output =
    (b : ℕ) → b < 1024 → block_bit output b ≡ block_bit input (bit_source before after b)

-- at t rows of a lane there are 1024 / t lanes
lanes_of : (t lanes : ℕ) → IsLayout t lanes → lanes ≡ 1024 / t
lanes_of t lanes layout = grind (arith, common_steps, layout.size, layout.area)

pub source_in_lanes : (t lanes i : ℕ) → IsLayout t lanes → i < 1024
    → bit_source (gather_place t) (scatter_place t) i ≡ lane_bit t lanes i
source_in_lanes t lanes i layout within =
    by_size (λ t. bit_source (gather_place t) (scatter_place t) i ≡ lane_bit t (1024 / t) i)
    (same_below (bit_source (gather_place 8) (scatter_place 8)) (lane_bit 8 128) 1024 i refl within)
    (same_below (bit_source (gather_place 16) (scatter_place 16)) (lane_bit 16 64) 1024 i refl within)
    (same_below (bit_source (gather_place 32) (scatter_place 32)) (lane_bit 32 32) 1024 i refl within)
    (same_below (bit_source (gather_place 64) (scatter_place 64)) (lane_bit 64 16) 1024 i refl within) t layout.size
    ∙ ap (λ n. lane_bit t n i) (sym (lanes_of t lanes layout))

-- the same for a transpose to the order of lanes
source_at : (t b : ℕ) → IsWordSize t → b < 1024 → bit_source (unscatter_place t) (ungather_place t) b ≡ place (b % t) (b / t)
source_at t b size within =
    by_size (λ t. bit_source (unscatter_place t) (ungather_place t) b ≡ place (b % t) (b / t))
    (same_below (bit_source (unscatter_place 8) (ungather_place 8)) (λ b. place (b % 8) (b / 8)) 1024 b refl within)
    (same_below (bit_source (unscatter_place 16) (ungather_place 16)) (λ b. place (b % 16) (b / 16)) 1024 b refl within)
    (same_below (bit_source (unscatter_place 32) (ungather_place 32)) (λ b. place (b % 32) (b / 32)) 1024 b refl within)
    (same_below (bit_source (unscatter_place 64) (ungather_place 64)) (λ b. place (b % 64) (b / 64)) 1024 b refl within) t size

pub source_in_places : (t lanes row lane : ℕ) → IsLayout t lanes → row < t → lane < lanes
    → bit_source (unscatter_place t) (ungather_place t) (lane * t + row) ≡ place row lane
source_in_places t lanes row lane layout in_rows in_lanes =
    let its_row : (lane * t + row) % t ≡ row = mod-mul-add lane t row in_rows in
    let its_lane : (lane * t + row) / t ≡ lane = div-mul-add lane t row in_rows in
    source_at t (lane * t + row) layout.size (bit_of_lane-lt t lanes row lane layout in_rows in_lanes)
    ∙ ap (λ n. place n ((lane * t + row) / t)) its_row ∙ ap (place row) its_lane
