use Rattle.std.proofs.Common.{ℕ, ◌<◌, map}
use Rattle.fastlanes_pages.specs.Values.{BeginsBlock, block_part}
use Rattle.fastlanes_pages.proofs.reading.read_page.Given as goal

-- the blocks so far have been read
abbrev pub invariant-loop-block : goal.invariant-loop-block
invariant-loop-block g l = (block : ℕ) → block < l.block
    → BeginsBlock g.E.MachineWord.T g.E.MachineWord.LANES l.page block (block_part (map g.E.MachineWord.number l.output) block)
