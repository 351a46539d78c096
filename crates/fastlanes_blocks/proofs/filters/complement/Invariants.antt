use Rattle.std.proofs.Common.{◌≡◌, ℕ, ◌<◌, ◌≤◌, ◌^◌}
use Rattle.std.specs.Prelude.{slice_index}
use Rattle.std.specs.Int.{bit_not, w64}
use Rattle.fastlanes_blocks.proofs.filters.complement.Given as goal

abbrev pub invariant-loop-k : goal.invariant-loop-k
invariant-loop-k l = ((j : ℕ) → j < l.k → (slice_index l.initial.mask j < 2 ^ 64) × (slice_index l.mask j ≡ bit_not w64 (slice_index l.initial.mask j)))
    × ((j : ℕ) → l.k ≤ j → slice_index l.mask j ≡ slice_index l.initial.mask j)
