-- A cursor over the words of a lane.
use Rattle.std.proofs.Common.{◌≡◌, ℕ, ◌*◌, ◌<◌, sym, ◌∙◌, arith}
use Rattle.std.proofs.Math.Nat.{zero-div, zero-mod}
use Rattle.fastlanes_base.specs.Counted.{Counted}
use Rattle.fastlanes_packing.specs.Steps.{IsReading}
use Rattle.fastlanes_rows.proofs.Begun.{begun_all, begun_whole}

-- one of which nothing is taken yet
pub reading_begin : {X : Type 0} (number : X → ℕ) (t lanes w lane : ℕ) (words : Counted X) (word : X) → 0 < t → words.width ≡ w → words.lane ≡ lane → words.count ≡ 0
    → IsReading number t lanes w lane 0 words word
reading_begin number t lanes w lane words word some width same none =
    let nothing : 0 * w ≡ 0 = omega arith in
    record {
      same_width = width;
      same_lane = same;
      count = none ∙ sym (begun_whole t w 0 some (rw nothing (zero-mod t)) ∙ rw nothing (zero-div t));
      carries = λ j within. record { is = λ inside. absurd (omega (arith, rw (nothing, zero-mod t) at inside)) };
    }

-- one that stands after the last row has taken all words
pub all_taken : {X : Type 0} (number : X → ℕ) (t lanes w lane : ℕ) (before after : Counted X) (word : X) → 0 < t → before.width ≡ w → before.lane ≡ lane
    → after.words ≡ before.words → IsReading number t lanes w lane t after word → after ≡ record before { count = w }
all_taken number t lanes w lane before after word some width same words reading = λ i. record {
  words = words i;
  width = (reading.same_width ∙ sym width) i;
  lane = (reading.same_lane ∙ sym same) i;
  count = (reading.count ∙ begun_all t w some) i;
}
