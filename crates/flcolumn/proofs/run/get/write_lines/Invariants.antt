use Rattle.std.proofs.Common.{◌≡◌, take}
use Rattle.fastlanes_streams.specs.Stream.{Takes}
use Rattle.flcolumn.specs.Runs.{lines_of}
use Rattle.flcolumn.proofs.run.get.write_lines.Given as goal

-- no write has failed, and the sink took the lines so far
abbrev pub invariant-loop-number : goal.invariant-loop-number
invariant-loop-number g l = record {
  failures : g.O.ByteOut.failures l.output ≡ g.O.ByteOut.failures l.initial.output;
  takes : g.O.ByteOut.tells → Takes (g.O.ByteOut.sink l.initial.output) (lines_of (take l.number-index l.numbers)) (g.O.ByteOut.sink l.output);
}
