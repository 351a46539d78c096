use Rattle.std.proofs.Common.{◌<◌}
use Rattle.std.proofs.lemmas.List.Elements.{All-replicate}
use Rattle.suite.proofs.vectors.blocks.indexes.Goals as goal

pub loop-place-init : goal.loop-place-init
loop-place-init g c = All-replicate (λ index. g.I.RunIndex.place index < 1024) 1024 _ c.of_place-indexes.ensures
