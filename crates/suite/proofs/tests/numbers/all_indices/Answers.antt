use Rattle.std.proofs.Common.{◌<◌, lit<}
use Rattle.std.proofs.lemmas.List.Elements.{All-replicate}
use Rattle.suite.proofs.tests.numbers.all_indices.Goals as goal

pub loop-i-init : goal.loop-i-init
loop-i-init c = All-replicate (λ i. i < 1024) 1024 0 (lit< tt)
