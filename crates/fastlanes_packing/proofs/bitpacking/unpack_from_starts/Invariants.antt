use Rattle.std.proofs.Common.{◌≡◌, ℕ, ◌<◌, map}
use Rattle.std.specs.List.{slice_index}
use Rattle.fastlanes_base.specs.Digits.{digit}
use Rattle.fastlanes_packing.proofs.bitpacking.unpack_from_starts.Given as goal

abbrev pub invariant-loop-j : goal.invariant-loop-j
invariant-loop-j g l = (k : ℕ) → k < l.j → slice_index (map g.E.MachineWord.number l.output) k ≡ digit g.E.MachineWord.T g.E.MachineWord.LANES l.width (map g.E.MachineWord.number l.packed) (slice_index l.indices k)
