-- A stream whose failed calls are counted.
use Rattle.std.specs.Prelude.{ℕ}
use Rattle.fastlanes_streams.specs.declared.counted.Counted.{Counted}

-- the stream itself
abbrev pub counted_stream : {S : Type 0} → Counted S → S
counted_stream s = s.stream

-- how many calls of it failed
abbrev pub counted_failures : {S : Type 0} → Counted S → ℕ
counted_failures s = s.failures
