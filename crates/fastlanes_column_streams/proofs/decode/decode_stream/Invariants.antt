use Rattle.std.proofs.Common.{◌≡◌, ◌+◌, ◌*◌, ◌<◌, ◌≤◌, length}
use Rattle.fastlanes_column_streams.proofs.Refused.{RestOfPages}
use Rattle.fastlanes_column_streams.specs.Pages.{DecodesPages}
use Rattle.fastlanes_column_streams.proofs.decode.decode_stream.Given as goal

-- no call has failed, and the sink took the values of the pages that the source gave
abbrev pub invariant-pages : goal.invariant-pages
invariant-pages g l = record {
  none_failed : (g.I.ByteIn.failures l.input ≡ g.I.ByteIn.failures l.initial.input) × (g.O.ByteOut.failures l.output ≡ g.O.ByteOut.failures l.initial.output);
  done : l.done ≤ 65536 * l.counter;
  low : 65536 * l.counter < l.done + 65536;
  room : length l.bytes ≡ length l.initial.bytes;
  rest : g.I.ByteIn.tells → RestOfPages g.E.MachineWord.T l.checked l.done (g.I.ByteIn.source l.initial.input).left (g.I.ByteIn.source l.input).left;
  pages : g.I.ByteIn.tells → g.O.ByteOut.tells → DecodesPages g.E.MachineWord.T g.E.MachineWord.LANES l.checked l.done
      (g.I.ByteIn.source l.initial.input) (g.I.ByteIn.source l.input) (g.O.ByteOut.sink l.initial.output) (g.O.ByteOut.sink l.output);
}
