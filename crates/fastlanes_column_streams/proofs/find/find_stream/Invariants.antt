use Rattle.std.proofs.Common.{◌≡◌, ◌+◌, ◌*◌, ◌<◌, ◌≤◌, length}
use Rattle.fastlanes_column_streams.proofs.Refused.{RestOfPages}
use Rattle.fastlanes_column_streams.specs.Single.{FindsPages}
use Rattle.fastlanes_column_streams.proofs.find.find_stream.Given as goal

-- no read has failed, and the values of the numbers are found in the pages that the source gave
abbrev pub invariant-pages : goal.invariant-pages
invariant-pages g l = record {
  reads : g.I.ByteIn.failures l.input ≡ g.I.ByteIn.failures l.initial.input;
  room : length l.bytes ≡ length l.initial.bytes;
  length : length l.found ≡ length l.initial.found;
  done : l.done ≤ 65536 * l.counter;
  low : 65536 * l.counter < l.done + 65536;
  rest : g.I.ByteIn.tells → RestOfPages g.E.MachineWord.T l.checked l.done (g.I.ByteIn.source l.initial.input).left (g.I.ByteIn.source l.input).left;
  pages : g.I.ByteIn.tells → FindsPages g.E.MachineWord.T g.E.MachineWord.LANES l.checked l.done
      (g.I.ByteIn.source l.initial.input) (g.I.ByteIn.source l.input) l.numbers l.found;
}
