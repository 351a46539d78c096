use Rattle.std.proofs.Common.{◌∙◌, arith, length, rules, ◌-◌, ◌≡◌}
use Rattle.fastlanes_streams.proofs.Moves.{Gives-more}
use borrow.Rule.Slice.PartMut.{put_mid}
use Rattle.fastlanes_streams.proofs.transfer.fill.Goals as goal

pub loop-filled-preserved : goal.loop-filled-preserved
loop-filled-preserved g c =
    let i = c.loop-filled.invariant in
    let l = c.loop-filled in
    let long : length (put_mid l.filled (length l.buffer - l.filled) l.buffer c.read.new.buf) ≡ length l.buffer = search rules in
    record {
      within = omega (arith, long, c.in-Ok.ensures.within, c.read.auto.buf);
      failures = c.in-Ok.ensures.failures ∙ i.failures;
      gives = λ told. Gives-more c.loop-filled.buffer c.read.new.buf c.loop-filled.filled c.in-Ok.count (omega arith) c.in-Ok.ensures.within (i.gives told) (c.in-Ok.ensures.gives told);
    }
