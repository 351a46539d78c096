use Rattle.flcolumn.proofs.Stopped.{stops_weaker}
use Rattle.flcolumn.proofs.streams.Streams.decode_as.Goals as goal

pub returns-clause-stops : goal.returns-clause-stops
returns-clause-stops g c = stops_weaker c.decode_with.result (λ never. absurd never) c.decode_with.ensures.never_no_memory
