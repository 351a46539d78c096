use Rattle.std.proofs.Common.{◌+◌, ◌/◌, rules}
use Rattle.flblock.specs.Ramp.{line_of}
use Rattle.fastlanes_bytes.proofs.Pieces.{pieces-put_mid}
use Rattle.flblock.proofs.ramp.write_lines.Goals as goal

pub loop-word-preserved : goal.loop-word-preserved
loop-word-preserved g c = record {
  count = search rules;
  lines =
      let l = c.loop-word in
      pieces-put_mid (line_of g.E.MachineWord.T) g.E.MachineWord.number c.args.words.now l.word-index (c.T.result / 4 + 1) c.word-item.result
      l.text c.write_line.new.line l.end _ c.loop-word-test.true c.word-item.is (rw (l.auto.text, c.T.ensures) c.requires) (search rules)
      l.invariant.count l.invariant.lines (rw (c.T-in-loop-word.ensures, c.to_number.ensures) at c.write_line.ensures);
}
