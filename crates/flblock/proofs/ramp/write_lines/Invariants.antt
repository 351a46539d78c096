use Rattle.std.proofs.Common.{◌≡◌, ◌*◌, map, take}
use Rattle.flblock.specs.Ramp.{lines_of}
use Rattle.flblock.proofs.ramp.write_lines.Given as goal

-- the text so far has the lines of the words so far, which are equally long
abbrev pub invariant-loop-word : goal.invariant-loop-word
invariant-loop-word g l = record {
  count : l.end ≡ l.word-index * l.line_len;
  lines : take l.end l.text ≡ lines_of g.E.MachineWord.T (map g.E.MachineWord.number (take l.word-index l.words));
}
