-- Blocks beside a reference.
use Rattle.std.proofs.Common.{◌≡◌, ℕ, ◌%◌, ◌^◌, ◌<◌, ◌≤◌, List, [], ◌∷◌, length, map, refl, ap, subst, sym, ◌∙◌, zero-add}
use Rattle.std.proofs.lemmas.List.{ext_get_or, get_or-map, length-map}
use Rattle.std.proofs.lemmas.List.Elements.{All-from_get_or, All-get_or}
use Rattle.std.proofs.lemmas.List.FromFn.{get_or-map-range_with_len, length-map-range_with_len}
use Rattle.std.specs.List.{All, range_with_len, slice_index}
use Rattle.fastlanes_base.specs.Digits.{IsPacked, digit, digits, row_digit}
use Rattle.fastlanes_base.specs.Element.{IsLayout}
use Rattle.fastlanes_base.specs.Order.{place}
use Rattle.fastlanes_base.proofs.Places.{place-lt}
use Rattle.fastlanes_rows.specs.Block.{HasValues, PacksValues, row_value}
use Rattle.fastlanes.specs.Frame.{NearBlockComesBack, NearOnesComeBack, framed, framed_row, unframed, unframed_row, word_difference, word_sum}
use Rattle.fastlanes_rows.proofs.Numbers.{same_digits}
use Rattle.fastlanes_packing.specs.Packing.{low_bits}
use Rattle.fastlanes_packing.proofs.PackedDigits.{packed_digit, packed_digits}
use Rattle.fastlanes_packing.proofs.Unpacking.{values_of_places}
use Rattle.fastlanes.proofs.Wrapping.{sum-low_difference}

-- two functions on a list, one after the other
pub map_map : (f g : ℕ → ℕ) (v : List ℕ) → map g (map f v) ≡ map (λ x. g (f x)) v
map_map f g [] = refl
map_map f g (x ∷ v) = ap (λ (u : List ℕ). g (f x) ∷ u) (map_map f g v)

-- an element of the differences
pub slice_index-framed : (t reference : ℕ) (v : List ℕ) (i : ℕ) → i < length v → slice_index (framed t reference v) i ≡ word_difference t (slice_index v i) reference
unfolding framed
slice_index-framed t reference v i h = get_or-map (λ x. word_difference t x reference) v i 0 0 h

-- an element of the sums
pub slice_index-unframed : (t reference : ℕ) (v : List ℕ) (i : ℕ) → i < length v → slice_index (unframed t reference v) i ≡ word_sum t (slice_index v i) reference
unfolding unframed
slice_index-unframed t reference v i h = get_or-map (λ x. word_sum t x reference) v i 0 0 h

-- an element of the digits
pub slice_index-digits : (t lanes w : ℕ) (p : List ℕ) (i : ℕ) → i < 1024 → slice_index (digits t lanes w p) i ≡ digit t lanes w p i
unfolding digits
slice_index-digits t lanes w p i h = get_or-map-range_with_len (digit t lanes w p) 0 1024 i i 0 h (zero-add i)

pub length-digits : (t lanes w : ℕ) (p : List ℕ) → length (digits t lanes w p) ≡ 1024
unfolding digits
length-digits t lanes w p = length-map-range_with_len (digit t lanes w p) 0 1024

-- values that are read from a list are those of an equal list
pub values_of_equal : {A : Type 0} (t lanes : ℕ) (at : List A → ℕ → ℕ → ℕ) (p q : List A) (v : List ℕ) → p ≡ q
    → HasValues t lanes (at p) v → HasValues t lanes (at q) v
values_of_equal t lanes at p q v same has = subst (λ r. HasValues t lanes (at r) v) same has

-- the rows' differences from the reference, packed, are those of the elements, packed
pub framed_packs : (t lanes w reference : ℕ) (v p : List ℕ) → IsLayout t lanes → length v ≡ 1024
    → PacksValues t lanes w (framed_row t reference (row_value v)) p → IsPacked t lanes w (framed t reference v) p
framed_packs t lanes w reference v p layout long packs = record {
  long = packs.long;
  each = λ lane in_lanes. packs.each lane in_lanes ∙ same_digits w _ _ t (λ row in_rows.
      let inside : place row lane < length v = rw long (place-lt t lanes row lane layout in_rows in_lanes) in
      ap (λ (x : ℕ). x % 2 ^ w) (sym (slice_index-framed t reference v (place row lane) inside)));
}

-- the sums of the rows' digits are the sums of the digits
pub unframed_digits : (t lanes w reference : ℕ) (p v : List ℕ) → IsLayout t lanes
    → HasValues t lanes (unframed_row t reference (row_digit t lanes w p)) v → v ≡ unframed t reference (digits t lanes w p)
unfolding unframed digits digit
unframed_digits t lanes w reference p v layout has =
    values_of_places t lanes (unframed_row t reference (row_digit t lanes w p)) v layout has
    ∙ sym (map_map (digit t lanes w p) (λ x. word_sum t x reference) (range_with_len 0 1024))

-- the digit of packed differences at a place is what is left of the element's difference
pub framed_digit : (t lanes w reference : ℕ) (v p : List ℕ) (i : ℕ) → IsLayout t lanes → length v ≡ 1024 → i < 1024
    → IsPacked t lanes w (framed t reference v) p → digit t lanes w p i ≡ word_difference t (slice_index v i) reference % 2 ^ w
framed_digit t lanes w reference v p i layout long in_block packed =
    let inside : i < length v = rw long in_block in
    packed_digit t lanes w (framed t reference v) p i layout in_block packed
    ∙ ap (λ (x : ℕ). x % 2 ^ w) (slice_index-framed t reference v i inside)

-- and all digits are what is left of all differences
pub framed_digits : (t lanes w reference : ℕ) (v p : List ℕ) → IsLayout t lanes → length v ≡ 1024
    → IsPacked t lanes w (framed t reference v) p → digits t lanes w p ≡ low_bits w (framed t reference v)
unfolding framed
framed_digits t lanes w reference v p layout long packed =
    packed_digits t lanes w (framed t reference v) p layout (length-map v (λ x. word_difference t x reference) ∙ long) packed

-- an element is the sum of its digit and the reference exactly where its difference has at most w bits
pub near_ones : (t lanes w reference : ℕ) (v p : List ℕ) → IsLayout t lanes → w ≤ t → length v ≡ 1024
    → All (λ x. x < 2 ^ t) v → reference < 2 ^ t → IsPacked t lanes w (framed t reference v) p → NearOnesComeBack t lanes w reference v p
near_ones t lanes w reference v p layout le long words below packed = λ i in_block.
    let inside : i < length v = rw long in_block in
    let is : word_sum t (digit t lanes w p i) reference ≡ word_sum t (word_difference t (slice_index v i) reference % 2 ^ w) reference =
    ap (λ (x : ℕ). word_sum t x reference) (framed_digit t lanes w reference v p i layout long in_block packed)
    in
    let exactly = sum-low_difference t w (slice_index v i) reference le (All-get_or (λ x. x < 2 ^ t) v i 0 inside words) below in
    (λ same. exactly.0 (sym is ∙ same), λ fits. is ∙ exactly.1 fits)

-- the sum of a digit and the reference, among those of all digits
unframed_digit : (t lanes w reference : ℕ) (p : List ℕ) (i : ℕ) → i < 1024
    → slice_index (unframed t reference (digits t lanes w p)) i ≡ word_sum t (digit t lanes w p i) reference
unframed_digit t lanes w reference p i in_block =
    let in_digits : i < length (digits t lanes w p) = rw (length-digits t lanes w p) in_block in
    slice_index-unframed t reference (digits t lanes w p) i in_digits
    ∙ ap (λ (x : ℕ). word_sum t x reference) (slice_index-digits t lanes w p i in_block)

length-unframed : (t lanes w reference : ℕ) (p : List ℕ) → length (unframed t reference (digits t lanes w p)) ≡ 1024
unfolding unframed
length-unframed t lanes w reference p = length-map (digits t lanes w p) (λ x. word_sum t x reference) ∙ length-digits t lanes w p

-- a block comes back exactly where each of its elements does
pub near_block : (t lanes w reference : ℕ) (v p : List ℕ) → length v ≡ 1024
    → NearOnesComeBack t lanes w reference v p → NearBlockComesBack t lanes w reference v p
near_block t lanes w reference v p long ones = (
  λ same. All-from_get_or (λ x. word_difference t x reference < 2 ^ w) v 0 (λ i inside.
      let in_block : i < 1024 = rw long at inside in
      (ones i in_block).0 (sym (unframed_digit t lanes w reference p i in_block) ∙ ap (λ (u : List ℕ). slice_index u i) same)),
  λ near. ext_get_or 0 (unframed t reference (digits t lanes w p)) v (length-unframed t lanes w reference p ∙ sym long) (λ i inside.
      let in_block : i < 1024 = rw (length-unframed t lanes w reference p) at inside in
      let in_list : i < length v = rw long in_block in
      unframed_digit t lanes w reference p i in_block
      ∙ (ones i in_block).1 (All-get_or (λ x. word_difference t x reference < 2 ^ w) v i 0 in_list near)),
)
