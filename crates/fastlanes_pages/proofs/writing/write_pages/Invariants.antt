use Rattle.std.proofs.Common.{◌≡◌, ◌*◌, ◌≤◌, drop, length, map, take}
use Rattle.fastlanes_pages.proofs.PageParts.{AreSoFar}
use Rattle.fastlanes_pages.specs.Encoded.{pages_most}
use Rattle.fastlanes_pages.proofs.writing.write_pages.Given as goal

-- the bytes so far are pages of the values so far, whatever follows
abbrev pub invariant-loop-page : goal.invariant-loop-page
invariant-loop-page g l = record {
  whole : length l.output ≡ length l.initial.output;
  inside : l.place ≤ length l.output;
  most : l.place ≤ pages_most g.E.MachineWord.T (length (take (65536 * l.page) l.values));
  are : AreSoFar g.E.MachineWord.T g.E.MachineWord.LANES l.checked l.frames_only (map g.E.MachineWord.number l.values) (take l.place l.output) l.page;
  behind : drop l.place l.output ≡ drop l.place l.initial.output;
}
