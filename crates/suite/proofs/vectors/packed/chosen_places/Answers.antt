use Rattle.std.proofs.Common.{◌<◌, lit<}
use Rattle.std.proofs.lemmas.List.Elements.{All-replicate}
use Rattle.suite.proofs.vectors.packed.chosen_places.Goals as goal

pub loop-j-init : goal.loop-j-init
loop-j-init c = All-replicate (λ place. place < 1024) 107 17 (lit< tt)
