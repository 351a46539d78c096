use Rattle.std.proofs.Common.{◌≡◌, ◌+◌, ◌*◌, ◌/◌, length, min}
use Rattle.fastlanes_pages.proofs.MaskParts.{TellsSoFar}
use Rattle.fastlanes_pages.specs.Heads.{told_blocks}
use Rattle.fastlanes_pages.specs.Masks.{holds_of}
use Rattle.fastlanes_pages.specs.ColumnValues.{column_values}
use Rattle.fastlanes_pages.proofs.opened.Opened.filter.Given as goal

-- the mask tells of the values of the blocks so far
abbrev pub invariant-parts : goal.invariant-parts
invariant-parts g l = record {
  told : l.told ≡ told_blocks g.E.MachineWord.T l.self.bytes.now (g.E.MachineWord.number l.value) l.number;
  long : length l.mask ≡ (length (column_values g.E.MachineWord.T g.E.MachineWord.LANES l.self.bytes.now) + 63) / 64;
  tells : TellsSoFar (holds_of l.comparison (g.E.MachineWord.number l.value)) (column_values g.E.MachineWord.T g.E.MachineWord.LANES l.self.bytes.now) l.mask (min (16 * l.number) (length l.mask));
}
