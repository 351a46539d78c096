-- What a source of bytes and a sink of bytes do at a call.
use Rattle.std.specs.Prelude.{◌≡◌, ℕ, ◌+◌, ◌<◌, ◌≤◌, List, ◌++◌, drop, length, take, Result, MatchResult}

-- what a source tells of its bytes: those that it gave, and those that it has left
pub record Source : Type 0 where
  pub given : List ℕ
  pub left : List ℕ

-- what a sink tells of its bytes: those that it took, how many it had taken at its last flush (0 before the first), and
-- those that it is to write over, in the slice of that ghost name
pub record Sink : Type 0 where
  pub taken : List ℕ
  pub flushed : ℕ
  pub left : List ℕ
  pub target : ℕ

-- the count of failed calls is one higher where the call failed, and else the same
abbrev pub CountsFailure : {T E : Type 0} → Result T E → ℕ → ℕ → Type 0
CountsFailure r before after = MatchResult r (λ _. after ≡ before) (λ _. after ≡ before + 1)

-- the source gave just these bytes
pub record Gives (before : Source) (bytes : List ℕ) (after : Source) : Type 0 where
  pub given : after.given ≡ before.given ++ bytes
  pub left : before.left ≡ bytes ++ after.left

-- the source gave fewer bytes than n
pub record StopsShort (n : ℕ) (before after : Source) : Type 0 where
  pub part : List ℕ
  pub gives : Gives before part after
  pub short : length part < n

-- the sink took just these bytes, in the place of as many of those that it is to write over
pub record Takes (before : Sink) (bytes : List ℕ) (after : Sink) : Type 0 where
  pub taken : after.taken ≡ before.taken ++ bytes
  pub flushed : after.flushed ≡ before.flushed
  pub left : after.left ≡ drop (length bytes) before.left
  pub target : after.target ≡ before.target

-- the sink took a beginning of the bytes
pub record TakesPart (before : Sink) (bytes : List ℕ) (after : Sink) : Type 0 where
  pub count : ℕ
  pub within : count ≤ length bytes
  pub takes : Takes before (take count bytes) after

-- the sink was flushed, with no more bytes taken
pub record Flushes (before after : Sink) : Type 0 where
  pub taken : after.taken ≡ before.taken
  pub flushed : after.flushed ≡ length after.taken
  pub left : after.left ≡ before.left
  pub target : after.target ≡ before.target

-- the sink took just these bytes, and was flushed after them
pub record Delivers (before : Sink) (bytes : List ℕ) (after : Sink) : Type 0 where
  pub taken : after.taken ≡ before.taken ++ bytes
  pub flushed : after.flushed ≡ length after.taken
  pub left : after.left ≡ drop (length bytes) before.left
  pub target : after.target ≡ before.target
