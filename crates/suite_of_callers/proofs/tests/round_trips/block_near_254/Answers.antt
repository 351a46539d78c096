use Rattle.std.proofs.Common.{◌<◌, ◌^◌, lit<}
use Rattle.std.proofs.lemmas.List.Elements.{All-replicate}
use Rattle.fastlanes.specs.Frame.{word_difference}
use Rattle.suite_of_callers.proofs.tests.round_trips.block_near_254.Goals as goal

pub loop-i-init : goal.loop-i-init
loop-i-init c = All-replicate (λ x. word_difference 8 x 254 < 2 ^ 2) 1024 254 (lit< tt)
