use Rattle.std.proofs.Common.{◌≡◌, ℕ, ◌+◌, ◌<◌, length, map}
use Rattle.std.specs.List.{slice_index}
use Rattle.fastlanes_pages.proofs.block.Block.read_each.Given as goal

-- the values so far are read
abbrev pub invariant-loop-k : goal.invariant-loop-k
invariant-loop-k g l = record {
  long : length l.output ≡ length l.initial.output;
  each : (k : ℕ) → k < l.k → slice_index (map g.E.MachineWord.number l.output) k ≡ slice_index l.self.values (l.from + k);
}
