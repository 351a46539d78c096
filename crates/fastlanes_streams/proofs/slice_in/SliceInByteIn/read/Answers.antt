use Rattle.std.proofs.Common.{arith}
use Rattle.fastlanes_streams.proofs.Moves.{Gives-next}
use Rattle.fastlanes_streams.proofs.slice_in.SliceInByteIn.read.Goals as goal

pub returns-clause-gives : goal.returns-clause-gives
returns-clause-gives c =
    let s = c.args.self.now in
    Gives-next s.bytes.now c.args.buf.now _ s.used c.min-count.result (omega (arith, s.within)) c.copy_from_slice.ensures.after
