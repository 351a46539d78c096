-- What a contract says of a sink over a slice.
use Rattle.fastlanes_base.specs.Counted.{Written}
use Rattle.fastlanes_rows.specs.declared.block_walk.SliceSink.{SliceSink}

-- what a sink of the words of several lanes has written
abbrev pub slice_sink : {X V : Type 0} {word vector : _} → SliceSink X V word vector → Written X
slice_sink sink = record { target = sink.packed.ghost_name; words = sink.packed.now; width = sink.width; lane = sink.lane; count = sink.written }
