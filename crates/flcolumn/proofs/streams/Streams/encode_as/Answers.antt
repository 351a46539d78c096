use Rattle.flcolumn.proofs.Stopped.{stops_weaker}
use Rattle.flcolumn.proofs.streams.Streams.encode_as.Goals as goal

pub returns-clause-stops : goal.returns-clause-stops
returns-clause-stops g c = stops_weaker c.encode_with.result (λ never. absurd never) c.encode_with.ensures.never_no_memory
