-- A slice as a source of bytes, and a slice as a sink.
use Rattle.std.specs.Prelude.{ℕ, ◌-◌, length, take, drop}
use Rattle.fastlanes_streams.specs.Stream.{Source, Sink}
use Rattle.fastlanes_streams.specs.declared.slice_in.SliceIn.{SliceIn}
use Rattle.fastlanes_streams.specs.declared.slice_out.SliceOut.{SliceOut}

-- it gave the first bytes of the slice, and has the others left
abbrev pub slice_source : SliceIn → Source
slice_source s = record { given = take s.used s.bytes.now; left = drop s.used s.bytes.now }

-- it took the bytes that now stand first in the slice, and is to write over the others
abbrev pub slice_sink : SliceOut → Sink
slice_sink s = record { taken = take s.used s.bytes.now; flushed = s.flushed; left = drop s.used s.bytes.now; target = s.bytes.ghost_name }

-- how many bytes more fit into the slice
abbrev pub slice_room : SliceOut → ℕ
slice_room s = length s.bytes.now - s.used

-- how many writes found it full
abbrev pub slice_failures : SliceOut → ℕ
slice_failures s = s.failures
