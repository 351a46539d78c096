use Rattle.std.proofs.Common.{◌≡◌, ℕ, ◌+◌, ◌-◌, length, take}
use Rattle.fastlanes_streams.specs.Stream.{Takes}
use Rattle.fastlanes_streams.proofs.transfer.deliver.Given as goal

-- no write has failed, the sink took the bytes that count as written, and has room for the others where it had room for all
abbrev pub invariant-loop-written : goal.invariant-loop-written
invariant-loop-written g l = record {
  failures : g.O.ByteOut.failures l.output ≡ g.O.ByteOut.failures l.initial.output;
  takes : g.O.ByteOut.tells → Takes (g.O.ByteOut.sink l.initial.output) (take l.written l.bytes) (g.O.ByteOut.sink l.output);
  room : (n : ℕ) → g.O.ByteOut.has_room l.initial.output (length l.bytes + n) → g.O.ByteOut.has_room l.output (length l.bytes - l.written + n);
}

abbrev pub decreases-loop-written : goal.decreases-loop-written
decreases-loop-written g l = length l.bytes - l.written
