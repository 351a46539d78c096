use Rattle.std.proofs.Common.{◌≡◌, ◌≤◌, ◌-◌, length, take}
use Rattle.fastlanes_streams.specs.Stream.{Gives}
use Rattle.fastlanes_streams.proofs.transfer.fill.Given as goal

-- no read has failed, and the source gave what the buffer is filled with
abbrev pub invariant-loop-filled : goal.invariant-loop-filled
invariant-loop-filled g l = record {
  within : l.filled ≤ length l.buffer;
  failures : g.I.ByteIn.failures l.input ≡ g.I.ByteIn.failures l.initial.input;
  gives : g.I.ByteIn.tells → Gives (g.I.ByteIn.source l.initial.input) (take l.filled l.buffer) (g.I.ByteIn.source l.input);
}

abbrev pub decreases-loop-filled : goal.decreases-loop-filled
decreases-loop-filled g l = length l.initial.buffer - l.filled
