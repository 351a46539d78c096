-- A sink, before a row and after it.
use Rattle.std.proofs.Common.{◌≡◌, ℕ, ◌+◌, ◌*◌, ◌/◌, ◌<◌, List, [], refl, ap, sym, ◌∙◌, arith}
use Rattle.std.proofs.Math.Nat.{zero-div}
use Rattle.fastlanes_base.specs.Counted.{Written}
use Rattle.fastlanes_rows.proofs.PackedRows.{held_all, held_none}
use Rattle.fastlanes_packing.specs.Kernels.{PacksAnswers}
use Rattle.fastlanes_packing.specs.Steps.{IsWriting, PacksRun}
use Rattle.fastlanes_rows.specs.Rows.{IsBesideWords}

-- a sink of which nothing is written yet
pub writing_begin : {X : Type 0} (t w lane : ℕ) (sink : Written X) → sink.width ≡ w → sink.lane ≡ lane → sink.count ≡ 0 → IsWriting t w lane 0 sink
writing_begin t w lane sink width same none = record {
  same_width = width;
  same_lane = same;
  written =
      let nothing : 0 * w ≡ 0 = omega arith in
      none ∙ rw nothing (sym (zero-div t));
}

-- a sink that nothing but words and their count was written to
pub writing_more : {X : Type 0} (number : X → ℕ) (t lanes w lane row : ℕ) (before after : Written X) → IsWriting t w lane row before
    → IsBesideWords 1 lanes lane number before after → after.count ≡ (row + 1) * w / t → IsWriting t w lane (row + 1) after
writing_more number t lanes w lane row before after writing beside count = record {
  same_width = ap (λ s. s.width) beside.same ∙ writing.same_width;
  same_lane = ap (λ s. s.lane) beside.same ∙ writing.same_lane;
  written = count;
}

-- before the first row
pub packs_begin : {S E : Type 0} (number : E → ℕ) (pre : S → ℕ → Type 0) (step : S → ℕ → E → S → Type 0) (bits lanes w lane : ℕ) (t : S) (p : List ℕ) (carry : ℕ)
    → 0 < bits → carry ≡ 0 → PacksRun number pre step bits lanes w lane 0 t t p carry
packs_begin number pre step bits lanes w lane t p carry some none = record { answers = []; long = refl; run = refl; held = held_none bits lanes w lane _ p carry some none }

-- after the last row
pub packs_all : {S E : Type 0} (number : E → ℕ) (pre : S → ℕ → Type 0) (step : S → ℕ → E → S → Type 0) (bits lanes w lane : ℕ) (t u : S) (p : List ℕ) (carry : ℕ)
    → 0 < bits → PacksRun number pre step bits lanes w lane bits t u p carry → PacksAnswers number pre step t bits lanes w lane p u
packs_all number pre step bits lanes w lane t u p carry some packs = record { answers = packs.answers; walk = packs.run; packed = held_all bits lanes w lane _ p carry some packs.held }
