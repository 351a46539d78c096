-- What a contract says of a sink.
use Rattle.fastlanes_base.specs.Counted.{Written}
use Rattle.fastlanes_base.specs.declared.meter.LaneSink.{LaneSink}
use Rattle.fastlanes_base.specs.declared.meter.RowSink.{RowSink}

-- what a sink of the words of one lane has written
abbrev pub lane_sink : {X : Type 0} {word : _} → LaneSink X word → Written X
lane_sink sink = record { target = sink.packed.ghost_name; words = sink.packed.now; width = sink.width; lane = sink.lane; count = sink.written }

-- what a sink of the words of sixteen lanes has written
abbrev pub row_sink : {X : Type 0} {a b c d e f g h i j k l m n o p q r s t u v w x y z α β : _} → RowSink X a b c d e f g h i j k l m n o p q r s t u v w x y z α β → Written X
row_sink sink = record { target = sink.packed.ghost_name; words = sink.packed.now; width = sink.width; lane = sink.lane; count = sink.written }
