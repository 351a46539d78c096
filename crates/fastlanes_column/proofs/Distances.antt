-- Words that lie near a base, compared by the low halves of their distances from it.
use Rattle.std.proofs.Common.{◌≡◌, ℕ, ◌+◌, ◌-◌, ◌%◌, ◌^◌, ◌<◌, ◌≤◌, ◌↔◌, List, length, get_or, map, ap, sym, ◌∙◌, arith, ⊎_elim}
use Rattle.std.proofs.Math.Nat.{mod-eq_of_lt}
use Rattle.std.proofs.lemmas.Bool.{cases_lt}
use Rattle.std.proofs.lemmas.List.{get_or-map, get_or_default, length-map}
use Rattle.std.proofs.lemmas.List.Elements.{All-from_get_or, All-map}
use Rattle.std.specs.List.{All, slice_index}
use Rattle.fastlanes.specs.Frame.{framed, word_difference}
use Rattle.fastlanes_column.specs.LeastWidth.{HasHead, IsGreatestOf, IsLeastOf}
use Rattle.fastlanes_column.proofs.Frames.{difference-above, near_elements}
use Rattle.fastlanes_column.proofs.WidthBounds.{IsGreatestSoFar, IsLeastSoFar}

-- the low halves of the distances
abbrev pub low_distances : ℕ → List ℕ → List ℕ
low_distances base numbers = map (λ x. x % 2 ^ 32) (framed 64 base numbers)

length-low_distances : (base : ℕ) (numbers : List ℕ) → length (low_distances base numbers) ≡ length numbers
unfolding framed
length-low_distances base numbers = grind (arith, length-map)

-- that of one number
low_distance : (base : ℕ) (numbers : List ℕ) (k : ℕ) → k < length numbers → slice_index (low_distances base numbers) k ≡ word_difference 64 (slice_index numbers k) base % 2 ^ 32
unfolding framed
low_distance base numbers k inside =
    let in_distances : k < length (map (λ n. word_difference 64 n base) numbers) = rw length-map inside in
    get_or-map (λ n. n % 2 ^ 32) (map (λ n. word_difference 64 n base) numbers) k 0 0 in_distances
    ∙ ap (λ (n : ℕ). n % 2 ^ 32) (get_or-map (λ n. word_difference 64 n base) numbers k 0 0 inside)

-- and of a word
pub low_distance_of : {X : Type 0} (number : X → ℕ) (base : ℕ) (words : List X) (k : ℕ) (x : X) → k < length words
    → slice_index (low_distances base (map number words)) k ≡ word_difference 64 (number (get_or words k x)) base % 2 ^ 32
low_distance_of number base words k x inside =
    let in_numbers : k < length (map number words) = rw length-map inside in
    low_distance base (map number words) k in_numbers
    ∙ ap (λ (n : ℕ). word_difference 64 n base % 2 ^ 32) (get_or-map number words k x 0 inside)

pub length-low_distances_of : {X : Type 0} (number : X → ℕ) (base : ℕ) (words : List X) → length (low_distances base (map number words)) ≡ length words
length-low_distances_of number base words = length-low_distances base (map number words) ∙ length-map words number

-- the first number is the least before any is looked at
pub least_begins : (t x : ℕ) (numbers : List ℕ) → 0 < length numbers → slice_index numbers 0 ≡ x → IsLeastSoFar t 0 x numbers
least_begins t x numbers some is = record {
  one = (0, some, get_or_default numbers 0 x 0 some ∙ is);
  least = λ k before. absurd (omega arith);
  below = λ k before. absurd (omega arith);
}

pub greatest_begins : (x : ℕ) (numbers : List ℕ) → 0 < length numbers → slice_index numbers 0 ≡ x → IsGreatestSoFar 0 x numbers
greatest_begins x numbers some is = record { one = (0, some, get_or_default numbers 0 x 0 some ∙ is); greatest = λ k before. absurd (omega arith) }

-- a word whose distance is below 2 ^ 32 is the base and that
near_word : (base x : ℕ) → base + 2 ^ 32 ≤ 2 ^ 64 → x < 2 ^ 64 → word_difference 64 x base < 2 ^ 32 → x ≡ base + word_difference 64 x base
near_word base x room word near = ⊎_elim
    (λ (under : x < base).
    let all : word_difference 64 x base ≡ x + (2 ^ 64 - base) = mod-eq_of_lt (omega arith) in
    absurd (omega (arith, all)))
    (λ (above : base ≤ x). let is = difference-above 64 x base above word in omega (arith, is))
    (cases_lt x base)

module _ (base : ℕ) (numbers : List ℕ) (room : base + 2 ^ 32 ≤ 2 ^ 64) (words : All (λ x. x < 2 ^ 64) numbers) (near : All (λ x. x < 2 ^ 32) (framed 64 base numbers)) where
  -- so each word is the base and its low half of the distance
  near_at : (k : ℕ) → k < length numbers → slice_index numbers k ≡ base + slice_index (low_distances base numbers) k
  near_at k here =
      let close = near_elements 64 base 32 numbers near k 0 here in
      near_word base (slice_index numbers k) room (words k 0 here) close
      ∙ ap (λ (n : ℕ). base + n) (sym (low_distance base numbers k here ∙ mod-eq_of_lt close))

  module _ (low : ℕ) (least : IsLeastOf low (low_distances base numbers)) where
    least_distance : (k : ℕ) → k < length numbers → low ≤ slice_index (low_distances base numbers) k
    least_distance k here =
        let in_lows : k < length (low_distances base numbers) = rw length-low_distances here in
        least.least k 0 in_lows

    -- the least word is the base and the least distance
    least_of_near : IsLeastOf (base + low) numbers
    least_of_near =
        let (k, inside, is) = least.one in
        let here : k < length numbers = rw length-low_distances at inside in
        record {
          one = (
            k,
            here,
            get_or_default numbers k (base + low) 0 here ∙ near_at k here
                ∙ ap (λ (n : ℕ). base + n) (sym (get_or_default (low_distances base numbers) k low 0 inside) ∙ is),
          );
          least = All-from_get_or (λ y. base + low ≤ y) numbers 0 (λ j there.
              let more = least_distance j there in
              rw (near_at j there) (omega arith));
        }

    -- above it stand the distances above the least one
    above_least : (k : ℕ) → k < length numbers → word_difference 64 (slice_index numbers k) (base + low) ≡ slice_index (low_distances base numbers) k - low
    above_least k here =
        let is = near_at k here in
        let more = least_distance k here in
        difference-above 64 (slice_index numbers k) (base + low) (omega arith) (words k 0 here) ∙ omega arith

    -- so the width of the greatest one of these holds all
    pub head_of_near : (high w : ℕ) → IsGreatestOf high (low_distances base numbers) → ((v : ℕ) → (high - low < 2 ^ v) ↔ (w ≤ v)) → w ≤ 32
        → HasHead 64 (base + low) w numbers
    unfolding framed
    head_of_near high w greatest exact fits = record {
      words = words;
      least = least_of_near;
      width = record {
        holds = All-map (λ x. x < 2 ^ w) (λ x. word_difference 64 x (base + low)) numbers (All-from_get_or (λ x. word_difference 64 x (base + low) < 2 ^ w) numbers 0 (λ k here.
            let in_lows : k < length (low_distances base numbers) = rw length-low_distances here in
            let most : slice_index (low_distances base numbers) k ≤ high = greatest.greatest k 0 in_lows in
            let small = (exact w).1 (omega arith) in
            rw (above_least k here) (omega arith)));
        least = λ other all.
            let (k, inside, is) = greatest.one in
            let here : k < length numbers = rw length-low_distances at inside in
            let there : slice_index (low_distances base numbers) k ≡ high = sym (get_or_default (low_distances base numbers) k high 0 inside) ∙ is in
            let small = near_elements 64 (base + low) other numbers all k 0 here in
            (exact other).0 (omega (arith, small, there, above_least k here));
      };
      fits = omega arith;
    }
