use Rattle.std.proofs.Common.{rules}
use Rattle.std.proofs.lemmas.List.{length-map}
use Rattle.callers.proofs.Whole.{back_again}
use Rattle.callers.proofs.blocks.pack_and_unpack.Goals as goal

pub returns : goal.returns
returns g c = back_again _ _ _ c.args.count _ _ _ (rw length-map c.requires.values) (rw length-map (search rules)) c.pack_blocks.ensures c.unpack_blocks.ensures
