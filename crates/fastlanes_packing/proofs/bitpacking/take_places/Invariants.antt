use Rattle.std.proofs.Common.{◌≡◌, ℕ, ◌<◌, map}
use Rattle.std.specs.List.{slice_index}
use Rattle.fastlanes_packing.proofs.bitpacking.take_places.Given as goal

abbrev pub invariant-loop-j : goal.invariant-loop-j
invariant-loop-j g l = (k : ℕ) → k < l.j → slice_index (map g.E.MachineWord.number l.output) k ≡ slice_index (map g.E.MachineWord.number l.block) (slice_index l.indices k)
