use Rattle.std.proofs.Common.{◌≡◌, ◌*◌, ◌≤◌}
use Rattle.flcolumn.specs.Stops.{GivesSome}
use Rattle.flcolumn.proofs.run.info.summarize_pages.Given as goal

-- no read has failed, there are not more values than pages have, and the source gave what was read
abbrev pub invariant-pages : goal.invariant-pages
invariant-pages g l = record {
  failures : g.I.ByteIn.failures l.input ≡ g.I.ByteIn.failures l.initial.input;
  done : l.done ≤ 65536 * l.counter;
  gives : g.I.ByteIn.tells → GivesSome (g.I.ByteIn.source l.initial.input) (g.I.ByteIn.source l.input);
}
