-- The digits of packed words are a block, the only one that packs to these words.
use Rattle.std.proofs.Common.{◌≡◌, ℕ, ◌*◌, ◌/◌, ◌%◌, ◌^◌, ◌<◌, List, length, map, ap, sym, subst, zero-add, ◌∙◌}
use Rattle.std.proofs.Math.Nat.{mod-eq_of_lt, mul_comm}
use Rattle.std.proofs.lemmas.List.Elements.{All-from_get_or, All-get_or}
use Rattle.std.proofs.lemmas.List.FromFn.{fill_by_all, get_or-map-range_with_len}
use Rattle.std.proofs.lemmas.Nat.{mod_below, pow_pos}
use Rattle.std.specs.List.{All, slice_index, range_with_len}
use Rattle.fastlanes_base.specs.Digits.{IsPacked, digit, digits, lane_number, row_digit}
use Rattle.fastlanes_base.specs.Element.{IsLayout}
use Rattle.fastlanes_base.specs.Order.{lane_at, place, row_at}
use Rattle.fastlanes_base.proofs.Places.{place-at, row_at-lt, some_lanes}
use Rattle.fastlanes_rows.specs.Block.{HasValues, PacksValues, row_value}
use Rattle.fastlanes_packing.specs.Packing.{PacksBlock, UnpacksBlock}
use Rattle.fastlanes_rows.proofs.Numbers.{same_digits}
use Rattle.fastlanes_packing.proofs.PackedDigits.{number_of_its_digits, packed_digit, packed_digits}
use Rattle.fastlanes_rows.proofs.RowDigits.{number_below}

-- a block with the value of each lane and row has the value at each place
pub value_at_place : (t lanes i : ℕ) (at : ℕ → ℕ → ℕ) (v : List ℕ) → IsLayout t lanes → i < 1024
    → HasValues t lanes at v → slice_index v i ≡ at (lane_at lanes i) (row_at lanes i)
value_at_place t lanes i at v layout in_block has =
    sym (ap (slice_index v) (place-at t lanes i layout in_block))
    ∙ has.each (lane_at lanes i) (row_at lanes i) (mod_below i lanes (some_lanes t lanes layout)) (row_at-lt t lanes i layout in_block)

-- and is the list of these values
pub values_of_places : (t lanes : ℕ) (at : ℕ → ℕ → ℕ) (v : List ℕ) → IsLayout t lanes
    → HasValues t lanes at v → v ≡ map (λ i. at (lane_at lanes i) (row_at lanes i)) (range_with_len 0 1024)
values_of_places t lanes at v layout has =
    fill_by_all _ _ 1024 0 has.long (λ i in_block. value_at_place t lanes i at v layout in_block has)

-- what was unpacked are the digits
pub unpacked_digits : (t lanes w : ℕ) (p v : List ℕ) → IsLayout t lanes
    → HasValues t lanes (row_digit t lanes w p) v → v ≡ digits t lanes w p
unfolding digits digit
unpacked_digits t lanes w p v layout has = values_of_places t lanes (row_digit t lanes w p) v layout has

-- each is below 2 ^ w
pub unpacked_below : (t lanes w : ℕ) (p v : List ℕ) → IsLayout t lanes
    → HasValues t lanes (row_digit t lanes w p) v → All (λ x. x < 2 ^ w) v
unpacked_below t lanes w p v layout has = All-from_get_or (λ x. x < 2 ^ w) v 0 (λ i in_list.
    subst (λ (x : ℕ). x < 2 ^ w) (sym (value_at_place t lanes i (row_digit t lanes w p) v layout (subst (λ (n : ℕ). i < n) has.long in_list) has))
    (mod_below (lane_number t lanes w (lane_at lanes i) p / 2 ^ (w * row_at lanes i)) (2 ^ w) (pow_pos w)))

-- they pack to the words
pub unpacked_packs : (t lanes w : ℕ) (p v : List ℕ) → length p ≡ lanes * w
    → HasValues t lanes (row_digit t lanes w p) v → IsPacked t lanes w v p
unpacked_packs t lanes w p v long has = record {
  long = long;
  each = λ lane in_lanes.
      let digit_of : (row : ℕ) → row < t → slice_index v (place row lane) % 2 ^ w ≡ row_digit t lanes w p lane row = λ row in_rows.
      ap (λ (x : ℕ). x % 2 ^ w) (has.each lane row in_lanes in_rows) ∙ mod-eq_of_lt (mod_below _ (2 ^ w) (pow_pos w))
      in
      let below : lane_number t lanes w lane p < 2 ^ (w * t) =
      subst (λ (n : ℕ). lane_number t lanes w lane p < 2 ^ n) (mul_comm t w) (number_below t _ w (λ k b. mod_below _ (2 ^ t) (pow_pos t)))
      in
      sym (same_digits w _ _ t digit_of ∙ number_of_its_digits w t (lane_number t lanes w lane p) ∙ mod-eq_of_lt below);
}

-- and no other block of numbers below 2 ^ w does
pub unpacked_only : (t lanes w : ℕ) (p v other : List ℕ) → IsLayout t lanes
    → HasValues t lanes (row_digit t lanes w p) v → length other ≡ 1024 → All (λ x. x < 2 ^ w) other → IsPacked t lanes w other p → other ≡ v
unfolding digits
unpacked_only t lanes w p v other layout has long below packed =
    fill_by_all (digit t lanes w p) other 1024 0 long (λ i in_block.
    let here = All-get_or (λ x. x < 2 ^ w) other i 0 (subst (λ (n : ℕ). i < n) (sym long) in_block) below in
    sym (packed_digit t lanes w other p i layout in_block packed ∙ mod-eq_of_lt here))
    ∙ sym (unpacked_digits t lanes w p v layout has)

-- a digit of the list of all digits
pub digit_of_all : (t lanes w i : ℕ) (p v : List ℕ) → i < 1024 → v ≡ digits t lanes w p → slice_index v i ≡ digit t lanes w p i
unfolding digits
digit_of_all t lanes w i p v in_block is = rw is (get_or-map-range_with_len (digit t lanes w p) 0 1024 i i 0 in_block (zero-add i))

-- what packing a block gives
pub packs_block : (t lanes w : ℕ) (v p : List ℕ) → IsLayout t lanes → length v ≡ 1024 → PacksValues t lanes w (row_value v) p → PacksBlock t lanes w v p
packs_block t lanes w v p layout long values =
    let packed : IsPacked t lanes w v p = record { long = values.long; each = values.each } in
    record {
      packed = packed;
      digits = packed_digits t lanes w v p layout long packed;
      places = λ i in_block. packed_digit t lanes w v p i layout in_block packed;
    }

-- what unpacking one gives
pub unpacks_block : (t lanes w : ℕ) (p v : List ℕ) → IsLayout t lanes → length p ≡ lanes * w → HasValues t lanes (row_digit t lanes w p) v → UnpacksBlock t lanes w p v
unpacks_block t lanes w p v layout long has =
    let digits = unpacked_digits t lanes w p v layout has in
    record {
      digits = digits;
      places = λ i in_block. digit_of_all t lanes w i p v in_block digits;
      below = unpacked_below t lanes w p v layout has;
      packs = unpacked_packs t lanes w p v long has;
      only = λ other whole below packed. unpacked_only t lanes w p v other layout has whole below packed;
    }
