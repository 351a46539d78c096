use Rattle.std.proofs.Common.{◌≡◌, ◌+◌, ◌-◌, ◌*◌, ◌/◌, ◌^◌, length, min}
use Rattle.fastlanes_column_streams.specs.Pages.{EncodesPages}
use Rattle.fastlanes_column_streams.proofs.encode.encode_stream.Given as goal

-- no call has failed, the source gave 65536 values for each page, and the sink took these pages
abbrev pub invariant-pages : goal.invariant-pages
invariant-pages g l = record {
  reads : g.I.ByteIn.failures l.input ≡ g.I.ByteIn.failures l.initial.input;
  writes : g.O.ByteOut.failures l.output ≡ g.O.ByteOut.failures l.initial.output;
  place : l.place ≡ min (l.page * (65536 * (g.E.MachineWord.T / 8))) (2 ^ 64 - 1);
  given : g.I.ByteIn.tells → length (g.I.ByteIn.source l.initial.input).left
      ≡ l.page * (65536 * (g.E.MachineWord.T / 8)) + length (g.I.ByteIn.source l.input).left;
  pages : g.I.ByteIn.tells → g.O.ByteOut.tells → EncodesPages g.E.MachineWord.T g.E.MachineWord.LANES l.options.frames_only l.options.checked (65536 * l.page)
      (g.I.ByteIn.source l.initial.input) (g.I.ByteIn.source l.input) (g.O.ByteOut.sink l.initial.output) (g.O.ByteOut.sink l.output);
}
