use Rattle.std.proofs.Common.{◌≡◌, ℕ, ◌*◌, ◌<◌, ◌≤◌, length}
use Rattle.fastlanes.specs.Bits.{block_bit}
use Rattle.fastlanes_pages.proofs.masks.keep_first.Given as goal

-- the bits before the place are kept, and those behind it are gone in the words so far
abbrev pub invariant-loop-k : goal.invariant-loop-k
invariant-loop-k l = record {
  long : length l.mask ≡ 16;
  kept : (i : ℕ) → i < l.len → block_bit l.mask i ≡ block_bit l.fn.mask i;
  gone : (i : ℕ) → l.len ≤ i → i < 64 * l.k → block_bit l.mask i ≡ 0;
}
