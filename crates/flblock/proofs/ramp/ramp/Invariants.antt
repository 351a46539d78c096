use Rattle.std.proofs.Common.{◌≡◌, ℕ, ◌%◌, ◌^◌, ◌<◌, length, map, get_or}
use Rattle.flblock.proofs.ramp.ramp.Given as goal

-- the places so far hold the ramp, and the value is that of the next place
abbrev pub invariant-loop-place : goal.invariant-loop-place
invariant-loop-place g l = record {
  whole : length l.values ≡ 1024;
  value : g.E.MachineWord.number l.value ≡ l.place % 2 ^ l.width;
  before : (k : ℕ) → k < l.place → get_or (map g.E.MachineWord.number l.values) k 0 ≡ k % 2 ^ l.width;
}
