use Rattle.std.proofs.Common.{◌≡◌, ℕ, ◌<◌, ◌≤◌, get_or, map}
use Rattle.fastlanes_column_streams.specs.Single.{Picks}
use Rattle.fastlanes_column_streams.proofs.find.pick.Given as goal

-- the values of the numbers so far are found, and the others are as they were
abbrev pub invariant-loop-place : goal.invariant-loop-place
invariant-loop-place g l = record {
  picked : (k : ℕ) → k < l.place → Picks l.before (map g.E.MachineWord.number l.values) (get_or l.numbers k 0) (get_or l.initial.found k 0) (get_or l.found k 0);
  others : (k : ℕ) → l.place ≤ k → get_or l.found k 0 ≡ get_or l.initial.found k 0;
}
