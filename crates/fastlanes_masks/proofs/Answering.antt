-- The answers of a comparison, gathered bit by bit.
use Rattle.std.proofs.Common.{◌≡◌, ◌≢◌, ◌++◌, ℕ, drop, inl, inr, ◌+◌, ◌-◌, ◌*◌, ◌/◌, ◌%◌, ◌^◌, ◌<◌, ◌≤◌, Bool, true, false, if◌then◌else◌, List, length, map, map-id, bit_or, ap, sym, subst, ◌∙◌, arith, below_more, get_or-set_other, get_or-set_same, lit<, lit≤, mul-suc, zero-add}
use Rattle.std.proofs.Math.Nat.{add_comm, mod-eq_of_lt, mod-one, pow-le-pow_right, mul-le-mul_right}
use Rattle.std.proofs.lemmas.Bool.{cases_lt}
use Rattle.std.proofs.lemmas.Nat.Bits.{bit_at_not}
use Rattle.std.proofs.lemmas.Nat.{mod_below, mul-add-lt, or_comm, or_shifted, pow-add, pow_pos, shr_high}
use Rattle.std.specs.Int.{bit_at, bit_not, w64}
use Rattle.std.specs.List.{slice_index, slice_set}
use Rattle.fastlanes_base.specs.Digits.{digit, row_digit}
use Rattle.fastlanes_base.specs.Element.{IsLayout, IsWordSize}
use Rattle.fastlanes_base.specs.Order.{lane_at, place, row_at}
use Rattle.fastlanes_base.proofs.Places.{place-at, place-lt, row_at-lt}
use Rattle.fastlanes_masks.specs.Bits.{TransposesBits, block_bit, block_byte}
use Rattle.fastlanes_masks.specs.Mask.{AnswersLanes, AreComparable, GatheredParts, IsGathered, IsLaneMask, IsPlaceMask, LanesAnswer, lane_byte}
use Rattle.fastlanes_rows.proofs.Lists.{append_none}
use Rattle.fastlanes_rows.proofs.RowDigits.{digit-place, high_drops}
use Rattle.fastlanes_masks.proofs.BitBytes.{bit_at_byte}
use Rattle.fastlanes_masks.proofs.BitSwaps.{bit_at_low, bit_at_shr}

-- one more answer, in the lowest bit that is free
pub gathered_more : (t n word bit result : ℕ) (answers : ℕ → ℕ → Type 0) (at : ℕ → ℕ) → n < t → bit ≤ 1
    → result ≡ bit_or word (bit * 2 ^ n % 2 ^ t) → answers (at n) bit
    → IsGathered answers at n word → IsGathered answers at (n + 1) result
unfolding IsGathered
gathered_more t n word bit result answers at room small is answer gathered =
    let twice : 2 ^ (n + 1) ≡ 2 * 2 ^ n = ap (λ (k : ℕ). 2 ^ k) (add_comm n 1) ∙ pow-add 2 1 n in
    let most : bit * 2 ^ n ≤ 1 * 2 ^ n = mul-le-mul_right (2 ^ n) small in
    let next : 2 ^ (n + 1) ≤ 2 ^ t = pow-le-pow_right (omega arith) (omega arith) in
    let positive : 0 < 2 ^ n = pow_pos n in
    let fits : bit * 2 ^ n < 2 ^ t = omega arith in
    let sum : result ≡ word + bit * 2 ^ n =
    is ∙ ap (bit_or word) (mod-eq_of_lt fits) ∙ or_comm word (bit * 2 ^ n) ∙ or_shifted bit n word gathered.below ∙ add_comm (bit * 2 ^ n) word
    in
    record {
      below = omega (arith, gathered.below);
      each = below_more (λ row. answers (at row) (bit_at result row)) n
          (λ row before.
          let same : bit_at result row ≡ bit_at word row = ap (λ (x : ℕ). bit_at x row) sum ∙ high_drops word bit n row 1 (omega arith) in
          subst (answers (at row)) (sym same) (gathered.each row before))
          (let here : bit_at result n ≡ bit =
          ap (λ (x : ℕ). bit_at x n) (sum ∙ add_comm word (bit * 2 ^ n)) ∙ ap (λ (x : ℕ). x % 2) (shr_high bit n word gathered.below) ∙ mod-eq_of_lt (omega arith)
          in
          subst (answers (at n)) (sym here) answer);
    }

-- no answer yet
pub gathered_none : (word : ℕ) (answers : ℕ → ℕ → Type 0) (at : ℕ → ℕ) → word ≡ 0 → IsGathered answers at 0 word
unfolding IsGathered
gathered_none word answers at none = record { below = omega (arith, none); each = λ row h. absurd (omega arith) }

-- the parts of a whole lane
pub gathered_parts : (answers : ℕ → ℕ → Type 0) (at : ℕ → ℕ) (n word : ℕ) → IsGathered answers at n word → GatheredParts answers at n word
unfolding IsGathered
gathered_parts answers at n word gathered = gathered

-- an answer is one bit
pub bit_small : (answer : Bool) → (if answer then 1 else 0) ≤ 1
bit_small true = lit≤ tt
bit_small false = lit≤ tt

-- the word of each lane before one, and of that one, after it was written
pub lanes_more : (t lanes lane word : ℕ) (answers : ℕ → ℕ → Type 0) (at : ℕ → ℕ → ℕ) (v : List ℕ) → lane < length v
    → IsGathered answers (at lane) t word
    → ((other : ℕ) → other < lane → GatheredParts answers (at other) t (slice_index v other))
    → (other : ℕ) → other < lane + 1 → GatheredParts answers (at other) t (slice_index (slice_set v lane word) other)
lanes_more t lanes lane word answers at v in_list here before = below_more _ lane
    (λ other h.
    let ne : other ≢ lane = omega arith in
    subst (GatheredParts answers (at other) t) (sym (get_or-set_other v lane other word 0 ne)) (before other h))
    (subst (GatheredParts answers (at lane) t) (sym (get_or-set_same v lane word 0 in_list)) (gathered_parts answers (at lane) t word here))

-- a bit of a lane's word, in a byte of it
bit_of_lane : (t lane row : ℕ) (words : List ℕ) → IsWordSize t → row < t
    → bit_at (lane_byte t words ((lane * t + row) / 8)) ((lane * t + row) % 8) ≡ bit_at (slice_index words lane) row
bit_of_lane t lane row words size in_rows =
    let b : ℕ = lane * t + row in
    let of_lane : b / 8 / (t / 8) ≡ lane = elim size [
      | inl is ↦ rw is (omega (arith, in_rows))
      | inr (inl is) ↦ rw is (omega (arith, in_rows))
      | inr (inr (inl is)) ↦ rw is (omega (arith, in_rows))
      | inr (inr (inr is)) ↦ rw is (omega (arith, in_rows))
    ] in
    let of_row : 8 * (b / 8 % (t / 8)) + b % 8 ≡ row = elim size [
      | inl is ↦ rw is (omega arith)
      | inr (inl is) ↦ rw is (omega arith)
      | inr (inr (inl is)) ↦ rw is (omega arith)
      | inr (inr (inr is)) ↦ rw is (omega arith)
    ] in
    let word = slice_index words (b / 8 / (t / 8)) in
    bit_at_low (word / 2 ^ (8 * (b / 8 % (t / 8)))) 8 (b % 8) (omega arith) ∙ bit_at_shr word (8 * (b / 8 % (t / 8))) (b % 8)
    ∙ ap (bit_at word) of_row ∙ ap (λ (k : ℕ). bit_at (slice_index words k) row) of_lane

-- words that have the bytes of the words of so many lanes have their answers
pub answers_of_bytes : (t n k : ℕ) (answers : ℕ → ℕ → Type 0) (at : ℕ → ℕ → ℕ) (words bytes m : List ℕ) → IsWordSize t → n * t ≡ 8 * k
    → ((i : ℕ) → i < k → slice_index bytes i ≡ lane_byte t words i) → ((i : ℕ) → i < k → block_byte m i ≡ slice_index bytes i)
    → LanesAnswer t n answers at words → AnswersLanes t n answers at m
answers_of_bytes t n k answers at words bytes m size area of_lanes of_block has = record {
  each = λ lane row in_lanes in_rows.
      let b : ℕ = lane * t + row in
      let inside = mul-add-lt lane t row n in_lanes in_rows in
      let in_bytes : b / 8 < k = omega (arith, area, inside) in
      let parts : b ≡ 8 * (b / 8) + b % 8 = omega arith in
      let bit : block_bit m b ≡ bit_at (slice_index words lane) row =
      ap (block_bit m) parts ∙ sym (bit_at_byte m (b / 8) (b % 8) (omega arith))
      ∙ ap (λ (x : ℕ). bit_at x (b % 8)) (of_block (b / 8) in_bytes ∙ of_lanes (b / 8) in_bytes)
      ∙ bit_of_lane t lane row words size in_rows
      in
      subst (answers (at lane row)) (sym bit) ((has.each lane in_lanes).each row in_rows);
}

-- words of a type whose numbers are themselves
pub answers_of_numbers : (t n : ℕ) (answers : ℕ → ℕ → Type 0) (at : ℕ → ℕ → ℕ) (words : List ℕ)
    → LanesAnswer t n answers at (map (λ x. x) words) → LanesAnswer t n answers at words
answers_of_numbers t n answers at words has = subst (LanesAnswer t n answers at) (map-id words) has

-- the words of the lanes from the first on are those of all lanes
pub lanes_from_first : (t n lanes : ℕ) (answers : ℕ → ℕ → Type 0) (at : ℕ → ℕ → ℕ) (words : List ℕ) → n ≡ lanes
    → LanesAnswer t n answers (λ lane. at (0 + lane)) words → LanesAnswer t lanes answers at words
lanes_from_first t n lanes answers at words all has = record {
  long = has.long ∙ all;
  each = λ lane in_lanes. subst (λ l. GatheredParts answers (at l) t (slice_index words lane)) (zero-add lane) (has.each lane (omega (arith, all)));
}

-- words in which all lanes have their answers are the mask
pub mask_of_lanes : (t lanes w : ℕ) (answers : ℕ → ℕ → Type 0) (p m : List ℕ) → IsLayout t lanes
    → AnswersLanes t lanes answers (row_digit t lanes w p) m → IsLaneMask t lanes answers (digit t lanes w p) m
unfolding digit
mask_of_lanes t lanes w answers p m layout has = record {
  each = λ i in_block.
      let some : 0 < lanes = grind (arith, layout.size, layout.area) in
      has.each (lane_at lanes i) (row_at lanes i) (mod_below i lanes some) (row_at-lt t lanes i layout in_block);
}

-- a quarter of a mask is four words
quarter_words : (t lanes quarter lane row : ℕ) → IsLayout t lanes → lane < lanes / 4 * quarter → row < t → (lane * t + row) / 64 < 4 * quarter
quarter_words t lanes quarter lane row layout in_lanes in_rows = grind (arith, layout.size, layout.area)

quarter_bits : (t lanes quarter lane row : ℕ) → IsLayout t lanes → (lanes / 4 * quarter + lane) * t + row ≡ 256 * quarter + (lane * t + row)
quarter_bits t lanes quarter lane row layout = grind (arith, layout.size, layout.area)

bits_of_quarter : (t lanes lane row : ℕ) → IsLayout t lanes → lane < lanes / 4 → row < t → lane * t + row < 256
bits_of_quarter t lanes lane row layout in_lanes in_rows = grind (arith, layout.size, layout.area)

-- the lanes of one more quarter of a mask have their answers, after it was written
pub quarters_more : (t lanes quarter : ℕ) (answers : ℕ → ℕ → Type 0) (at : ℕ → ℕ → ℕ) (words v m : List ℕ) → IsLayout t lanes
    → ((k : ℕ) → k < 4 → slice_index m (4 * quarter + k) ≡ slice_index words k) → ((k : ℕ) → k < 4 * quarter → slice_index m k ≡ slice_index v k)
    → AnswersLanes t (lanes / 4) answers (λ lane. at (lanes / 4 * quarter + lane)) words → AnswersLanes t (lanes / 4 * quarter) answers at v
    → AnswersLanes t (lanes / 4 * (quarter + 1)) answers at m
quarters_more t lanes quarter answers at words v m layout here before new old = record {
  each = λ lane row in_lanes in_rows.
      let n : ℕ = lanes / 4 in
      elim (cases_lt lane (n * quarter)) [
        | inl below ↦
            subst (answers (at lane row)) (ap (λ (x : ℕ). bit_at x ((lane * t + row) % 64)) (sym (before _ (quarter_words t lanes quarter lane row layout below in_rows))))
            (old.each lane row below in_rows)
        | inr from ↦
            let j : ℕ = lane - n * quarter in
            let parts : n * quarter + j ≡ lane = omega arith in
            let in_quarter : j < n = omega (arith, mul-suc n quarter) in
            let b : ℕ = j * t + row in
            let inside : b < 256 = bits_of_quarter t lanes j row layout in_quarter in_rows in
            let of_word : (256 * quarter + b) / 64 ≡ 4 * quarter + b / 64 = omega arith in
            let of_bit : (256 * quarter + b) % 64 ≡ b % 64 = omega arith in
            let bit : block_bit m ((n * quarter + j) * t + row) ≡ block_bit words b =
            ap (block_bit m) (quarter_bits t lanes quarter j row layout) ∙ ap (λ (k : ℕ). bit_at (slice_index m k) ((256 * quarter + b) % 64)) of_word
            ∙ ap (λ (x : ℕ). bit_at x ((256 * quarter + b) % 64)) (here (b / 64) (omega arith)) ∙ ap (bit_at (slice_index words (b / 64))) of_bit
            in
            subst (λ l. answers (at l row) (block_bit m (l * t + row))) parts (subst (answers (at (n * quarter + j) row)) (sym bit) (new.each j row in_quarter in_rows))
      ];
}

-- four quarters are all lanes
pub answers_whole : (t lanes quarters : ℕ) (answers : ℕ → ℕ → Type 0) (at : ℕ → ℕ → ℕ) (m : List ℕ) → IsLayout t lanes → quarters ≡ 4
    → AnswersLanes t (lanes / 4 * quarters) answers at m → AnswersLanes t lanes answers at m
answers_whole t lanes quarters answers at m layout four has =
    let whole : lanes / 4 * 4 ≡ lanes = grind (arith, layout.size, layout.area) in
    subst (λ n. AnswersLanes t n answers at m) whole (subst (λ q. AnswersLanes t (lanes / 4 * q) answers at m) four has)

-- sixteen words are all of a slice of as many
pub whole_mask : (t lanes : ℕ) (answers : ℕ → ℕ → Type 0) (at : ℕ → ℕ) (m output : List ℕ) → length output ≡ 16
    → IsLaneMask t lanes answers at m → IsLaneMask t lanes answers at (m ++ drop 16 output)
whole_mask t lanes answers at m output long mask = subst (IsLaneMask t lanes answers at) (sym (append_none 16 m output long)) mask

-- sixteen equal words, each of 64 equal bits
pub equal_bits : (m : List ℕ) (word bit : ℕ) → ((k : ℕ) → k < 64 → bit_at word k ≡ bit) → ((k : ℕ) → k < 16 → slice_index m k ≡ word)
    → (b : ℕ) → b < 1024 → block_bit m b ≡ bit
equal_bits m word bit bits words b below = ap (λ (x : ℕ). bit_at x (b % 64)) (words (b / 64) (omega arith)) ∙ bits (b % 64) (omega arith)

-- the bits of the greatest word
pub bits_of_ones : (k : ℕ) → k < 64 → bit_at (bit_not w64 0) k ≡ 1
bits_of_ones k below = bit_at_not w64 0 k (lit< tt) below ∙ ap (λ (x : ℕ). 1 - x) (bits_of_zeros k)
  where
    bits_of_zeros : (j : ℕ) → bit_at 0 j ≡ 0
    bits_of_zeros j = grind arith

-- at width 0 one answer is that for all digits
pub mask_of_zeros : (t lanes w bit : ℕ) (answers : ℕ → ℕ → Type 0) (p m : List ℕ) → IsLayout t lanes → w ≡ 0
    → answers (row_digit t lanes w p 0 0) bit → ((b : ℕ) → b < 1024 → block_bit m b ≡ bit) → IsLaneMask t lanes answers (digit t lanes w p) m
unfolding digit
mask_of_zeros t lanes w bit answers p m layout none answer all = record {
  each = λ i in_block.
      let lane = lane_at lanes i in
      let row = row_at lanes i in
      let some : 0 < lanes = grind (arith, layout.size, layout.area) in
      let inside = mul-add-lt lane t row lanes (mod_below i lanes some) (row_at-lt t lanes i layout in_block) in
      let below : lane * t + row < 1024 = omega (arith, layout.area, inside) in
      let zero_digit : (l r : ℕ) → row_digit t lanes w p l r ≡ 0 = λ l r. ap (λ (x : ℕ). row_digit t lanes x p l r) none ∙ mod-one _ in
      subst (answers (row_digit t lanes w p lane row)) (sym (all (lane * t + row) below))
      (subst (λ (x : ℕ). answers x bit) (zero_digit 0 0 ∙ sym (zero_digit lane row)) answer);
}

-- its transpose is the mask in the order of places
pub place_mask_of_lanes : (t lanes : ℕ) (answers : ℕ → ℕ → Type 0) (at : ℕ → ℕ) (m moved : List ℕ) → IsLayout t lanes
    → IsLaneMask t lanes answers at m → TransposesBits t lanes m moved → IsPlaceMask answers at moved
place_mask_of_lanes t lanes answers at m moved layout mask moves = record {
  each = λ i in_block.
      let some : 0 < lanes = grind (arith, layout.size, layout.area) in
      let bit = moves.each (row_at lanes i) (lane_at lanes i) (row_at-lt t lanes i layout in_block) (mod_below i lanes some) in
      let here : block_bit moved i ≡ block_bit m (lane_at lanes i * t + row_at lanes i) = ap (block_bit moved) (sym (place-at t lanes i layout in_block)) ∙ bit in
      subst (answers (at i)) (sym here) (mask.each i in_block);
}

-- the comparison may be asked about the digits at all places, and so about those of all rows
pub rows_comparable : (t lanes w : ℕ) (may : ℕ → Type 0) (p : List ℕ) → IsLayout t lanes
    → ((i : ℕ) → i < 1024 → may (digit t lanes w p i)) → AreComparable t lanes w may p
unfolding AreComparable
rows_comparable t lanes w may p layout all = λ lane row in_lanes in_rows.
    subst may (digit-place t lanes w lane row p layout in_rows in_lanes) (all (place row lane) (place-lt t lanes row lane layout in_rows in_lanes))
