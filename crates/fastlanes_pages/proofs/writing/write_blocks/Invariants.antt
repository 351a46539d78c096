use Rattle.std.proofs.Common.{◌≡◌, ℕ, ◌+◌, ◌*◌, ◌<◌, ◌≤◌, drop, length, map}
use Rattle.fastlanes_format.specs.Format.{IsBlockHead, block_place, values_of}
use Rattle.fastlanes_pages.specs.Shortest.{IsShortest, filled_block}
use Rattle.fastlanes_pages.specs.Values.{BeginsBlock, block_part}
use Rattle.fastlanes_pages.proofs.writing.write_blocks.Given as goal

-- the heads and the blocks so far are as they have to be, and the next block begins behind them
abbrev pub invariant-loop-number : goal.invariant-loop-number
invariant-loop-number g l = record {
  whole : length l.page ≡ length l.initial.page;
  count : values_of l.page ≡ length l.values;
  place : l.place ≡ block_place l.page l.number;
  most : l.place ≤ 16 + 16 * l.blocks + l.number * (128 * g.E.MachineWord.T);
  heads : (block : ℕ) → block < l.number → IsBlockHead g.E.MachineWord.T l.page block;
  begin : (block : ℕ) → block < l.number
      → BeginsBlock g.E.MachineWord.T g.E.MachineWord.LANES l.page block (block_part (map g.E.MachineWord.number l.values) block);
  shortest : (block : ℕ) → block < l.number
      → IsShortest g.E.MachineWord.T l.frames_only l.page block (filled_block (map g.E.MachineWord.number l.values) block);
  behind : drop l.place l.page ≡ drop l.place l.initial.page;
}
