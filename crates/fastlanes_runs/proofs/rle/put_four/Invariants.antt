use Rattle.std.proofs.Common.{◌≡◌, ◌<◌, ◌+◌, ℕ, List, slice_index}
use Rattle.fastlanes_runs.specs.RunSteps.{DecodesPlaces}
use Rattle.fastlanes_runs.proofs.rle.put_four.Given as goal

abbrev pub invariant-loop-j : goal.invariant-loop-j
invariant-loop-j g l = (idxs : List ℕ) → ((j : ℕ) → j < 4 → slice_index l.places j ≡ slice_index idxs (l.from + j))
    → DecodesPlaces idxs l.rle_vals l.from (l.from + l.j) l.initial.output l.output
