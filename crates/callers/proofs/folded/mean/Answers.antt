use Rattle.std.proofs.Common.{lit<, refl}
use Rattle.std.proofs.lemmas.List.{map-id}
use Rattle.callers.proofs.folded.mean.Goals as goal

pub returns : goal.returns
returns c = rw (c.unpack_sum.ensures.exact (lit< tt), map-id c.args.packed.now) refl
