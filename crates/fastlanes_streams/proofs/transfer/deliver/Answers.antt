use Rattle.std.proofs.Common.{◌≡◌, ℕ, ◌+◌, ◌-◌, ◌∙◌, arith, length, rules, subst, sym}
use Rattle.std.specs.List.{between}
use Rattle.fastlanes_streams.proofs.Moves.{Takes-more}
use Rattle.fastlanes_streams.proofs.transfer.deliver.Goals as goal

pub loop-written-preserved : goal.loop-written-preserved
loop-written-preserved g c =
    let i = c.loop-written.invariant in
    record {
      failures = c.in-Ok.ensures.failures ∙ i.failures;
      takes = λ told. Takes-more c.args.bytes.now c.loop-written.written c.in-Ok.count (i.takes told) (c.in-Ok.ensures.takes told);
      room = λ n room.
          let bytes = c.args.bytes.now in
          let w = c.loop-written.written in
          let left : length (between w (length bytes) bytes) ≡ length bytes - w = search rules in
          let before = subst (λ (k : ℕ). g.O.ByteOut.has_room c.loop-written.output (k + n)) (sym left) (i.room n room) in
          let after : length (between w (length bytes) bytes) - c.in-Ok.count + n ≡ length bytes - (w + c.in-Ok.count) + n = omega (arith, left) in
          subst (g.O.ByteOut.has_room c.write.new.self) after (c.in-Ok.ensures.room_left n before);
    }
