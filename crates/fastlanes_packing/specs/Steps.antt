-- Walks of a lane, row by row, over a cursor or a sink. Words have t bits, and a block's lanes packed to the width w have
-- w words each; p is the list of the words' numbers.
use Rattle.std.specs.Prelude.{◌≡◌, ℕ, ◌*◌, ◌/◌, List, length, map, slice_index}
use Rattle.fastlanes_base.specs.Counted.{Counted, Written}
use Rattle.fastlanes_rows.specs.Row.{HoldsDigits}
use Rattle.fastlanes_rows.specs.Rows.{ReadsRows}
use Rattle.fastlanes_packing.specs.Kernels.{MayWalk, Walks, WalksWith, each_below, lane_place, places}

-- a kernel in the state t may go on at number m of n arguments: it came there by a walk over those before, and may walk
-- over all
pub record MayGoOn {S A R : Type 0} (pre : S → A → Type 0) (step : S → A → R → S → Type 0) (argument : ℕ → A) (m n : ℕ) (t : S) : Type 0 where
  pub start : S
  pub may : MayWalk pre step start argument n
  pub walk : Walks pre step start (each_below argument m) t

-- a cursor stands before a row of a lane: it has taken the words in which the rows before have bits, and `word` is the
-- last of these where the row has bits there too
abbrev pub IsReading : {X : Type 0} → (X → ℕ) → ℕ → ℕ → ℕ → ℕ → ℕ → Counted X → X → Type 0
IsReading number t lanes w lane row words word = ReadsRows 1 t lanes w lane row number words (λ j. number word)

-- a sink stands before a row of a lane: it has written the words that the rows before fill
pub record IsWriting {X : Type 0} (t w lane row : ℕ) (sink : Written X) : Type 0 where
  pub same_width : sink.width ≡ w
  pub same_lane : sink.lane ≡ lane
  pub written : sink.count ≡ row * w / t

-- a run over the places of the first n rows of a lane, of which the lane's words hold the answers
pub record PacksRun {S E : Type 0} (number : E → ℕ) (pre : S → ℕ → Type 0) (step : S → ℕ → E → S → Type 0) (t lanes w lane n : ℕ) (s u : S) (p : List ℕ) (carry : ℕ) : Type 0 where
  pub answers : List E
  pub long : length answers ≡ n
  pub run : WalksWith pre step s (places n lane) answers u
  pub held : HoldsDigits t lanes w lane n (slice_index (map number answers)) p carry

-- a kernel in the state t may go on at row m of a lane, over words p and the bits in `carry` that fill none: it came there
-- by a run whose answers these hold, and may walk over all rows
pub record MayPackOn {S E : Type 0} (number : E → ℕ) (pre : S → ℕ → Type 0) (step : S → ℕ → E → S → Type 0) (bits lanes w lane m : ℕ) (t : S) (p : List ℕ) (carry : ℕ) : Type 0 where
  pub start : S
  pub may : MayWalk pre step start (lane_place lane) bits
  pub run : PacksRun number pre step bits lanes w lane m start t p carry
