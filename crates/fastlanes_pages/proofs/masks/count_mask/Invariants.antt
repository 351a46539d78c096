use Rattle.std.proofs.Common.{◌≡◌, ℕ, ◌≤◌, ◌<◌, ◌*◌, ◌^◌, count_ones, sum_by, take}
use Rattle.std.specs.List.{slice_index}
use Rattle.fastlanes_pages.proofs.masks.count_mask.Given as goal

-- the ones of the words so far
abbrev pub invariant-loop-k : goal.invariant-loop-k
invariant-loop-k l = record {
  sum : l.count ≡ sum_by count_ones (take l.k l.mask);
  few : l.count ≤ 64 * l.k;
  small : (k : ℕ) → k < l.k → slice_index l.mask k < 2 ^ 64;
}
